-- The joint working time of a piece, by the rows of its bookings; and that working time within a span is known from the working instants. Assumes nothing.
use Prim.Native.Nat.{ℕ, zero, suc, ◌+◌, ◌<◌}
use mathlib.Core.Path.{◌≡◌, refl, ap, ap₂, ◌∙◌}
use mathlib.Core.Bool.{Bool, true, false, not, ◌&&◌, ◌||◌, and-true, or-false}
use mathlib.Core.List.{List, [], ◌∷◌, map}
use lib.IntN.{ℤ, pos}
use Rattle.loops.specs.Lists.{keep, any_of, all_of}
use Rattle.loops.specs.Range.{collect}
use Rattle.loops.specs.Search.{any_below}
use Rattle.loops.proofs.ListLaws.{any_map, any_keep, any_collect, all_append}
use Rattle.loops.proofs.PlaceLaws.{any_same}
use Rattle.calendar.specs.Clock.{clock, ahead}
use Rattle.calendar.specs.Calendar.{Calendar, is_working_time, joint_working}
use Rattle.calendar.specs.Amount.{one, count, since, joint_available_ms}
use Rattle.rows.specs.Cells.{row_count, num, is}
use Rattle.sheet.specs.inner.Accepted.{Accepted}
use Rattle.model.specs.Sheet.{sheet}
use Rattle.model.specs.Resource.{windows}
use Rattle.model.specs.Schedule.{assignment_at, assignments_below, assignments}
use Rattle.model.specs.inner.Records.{activity_of, assignment_of}
use Rattle.model.proofs.RowLaws.{assignment_row, assignment_none}
use Rattle.definition.specs.Pieces.{of_piece, assigned_with}
use Rattle.definition.specs.CheckCalendars.{piece_calendars}
use Rattle.pieces.specs.inner.Bookings.{in_piece}
use Rattle.pieces.proofs.Companions.{of_piece_lem}

-- ---- calendars that work at the same instants

counts_same : (p q : ℕ → Bool) → ((k : ℕ) → p k ≡ q k) → (a n : ℕ) → count p a n ≡ count q a n
unfolding count
counts_same p q h a zero = refl
counts_same p q h a (suc n) = ap₂ ◌+◌ (ap one (h a)) (counts_same p q h (suc a) n)

pub available_same : (cs ds : List (Calendar ℤ)) → ((t : ℤ) → joint_working clock cs t ≡ joint_working clock ds t) → (a e : ℤ)
    → joint_available_ms clock cs a e ≡ joint_available_ms clock ds a e
unfolding joint_available_ms
available_same cs ds h a e = counts_same (since clock cs a) (since clock ds a) (λ k. h (clock.plus a (pos k))) 0 (ahead clock a e)

-- ---- all work if none does not

pub all_any : {A : Type 0} (p : A → Bool) (l : List A) → all_of p l ≡ not (any_of (λ x. not (p x)) l)
unfolding all_of any_of
all_any p [] = refl
all_any p (x ∷ l) = go (p x) (all_any p l)
  where
    go : (b : Bool) → all_of p l ≡ not (any_of (λ y. not (p y)) l) → (b && all_of p l) ≡ not (not b || any_of (λ y. not (p y)) l)
    go true h = h
    go false h = refl

module _ (rows : List ℤ) (acc : Accepted rows) (k : ℕ) (l : k < row_count rows) (h : is rows k 0 23 ≡ true) (t : ℤ) where
  -- a resource, by its id, is at rest at t
  rests : ℕ → Bool
  rests r = not (is_working_time clock (windows (sheet rows) 15 r) t)

  -- booking j is of booking k's piece, and its resource is at rest
  unfoldable pub rests_at : ℕ → Bool
  rests_at j = in_piece rows k j && not (is_working_time clock (windows (sheet rows) 15 (num rows j 3)) t)

  rests_row : (j : ℕ) → j < row_count rows → any_of (λ x. of_piece (assignment_of rows k) x && rests x.resource) (assignment_at (sheet rows) j) ≡ rests_at j
  unfolding any_of rests_at rests
  rests_row j m = go (is rows j 0 23) refl
    where
      go : (b : Bool) → is rows j 0 23 ≡ b
          → any_of (λ x. of_piece (assignment_of rows k) x && rests x.resource) (assignment_at (sheet rows) j) ≡ (in_piece rows k j && rests (num rows j 3))
      go true g =
          rw (assignment_row rows j g)
          (or-false (of_piece (assignment_of rows k) (assignment_of rows j) && rests (num rows j 3))
          ∙ ap (λ z. z && rests (num rows j 3)) (of_piece_lem rows acc j k m l g h))
      go false g = rw (assignment_none rows j g) (unfold in_piece in rw g)

  resting : any_of rests (assigned_with (sheet rows) (assignment_of rows k)) ≡ any_below rests_at (row_count rows)
  unfolding assigned_with assignments assignments_below
  resting =
      any_map rests (λ x. x.resource) (keep (of_piece (assignment_of rows k)) (collect (assignment_at (sheet rows)) (row_count rows)))
      ∙ any_keep (λ x. rests x.resource) (of_piece (assignment_of rows k)) (collect (assignment_at (sheet rows)) (row_count rows))
      ∙ any_collect (λ x. of_piece (assignment_of rows k) x && rests x.resource) (assignment_at (sheet rows)) (row_count rows)
      ∙ any_same _ _ (row_count rows) rests_row

  -- it works at t if no booking's resource is at rest, and the activity is not
  pub joint_is : (a : ℕ)
      → joint_working clock (piece_calendars clock (sheet rows) (assignment_of rows k) (activity_of rows a)) t
      ≡ (not (any_below rests_at (row_count rows)) && is_working_time clock (windows (sheet rows) 16 (num rows a 1)) t)
  unfolding joint_working piece_calendars all_of rests
  joint_is a =
      all_append (λ c. is_working_time clock c t) (map (windows (sheet rows) 15) (assigned_with (sheet rows) (assignment_of rows k))) (windows (sheet rows) 16 (num rows a 1) ∷ [])
      ∙ ap₂ ◌&&◌
      (all_any (λ c. is_working_time clock c t) (map (windows (sheet rows) 15) (assigned_with (sheet rows) (assignment_of rows k)))
      ∙ ap not
      (any_map (λ c. not (is_working_time clock c t)) (windows (sheet rows) 15) (assigned_with (sheet rows) (assignment_of rows k)) ∙ resting))
      (and-true (is_working_time clock (windows (sheet rows) 16 (num rows a 1)) t))
