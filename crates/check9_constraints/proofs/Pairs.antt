-- Each two bookings of a no-overlap constraint's members, and the bookings, by rows. Assumes nothing.
use Prim.Native.Nat.{ℕ, zero, suc}
use mathlib.Core.Path.{◌≡◌, refl, ap, ap₂, sym, ◌∙◌}
use mathlib.Core.Bool.{Bool, true, false, ◌&&◌, and_assoc}
use mathlib.Core.List.{List, [], ◌∷◌, ◌++◌, map, append-nil}
use Rattle.std.specs.Prelude.{Option, None, Some}
use native.Mathlib.Omega.{arith}
use lib.Dec.{eqb}
use lib.IntN.{ℤ, pos}
use lib.ListN.{length}
use Rattle.loops.specs.Lists.{given, keep, head, each, option}
use Rattle.loops.specs.Range.{collect}
use Rattle.loops.specs.Search.{or_else, some_if, first, first_place}
use Rattle.loops.proofs.ListLaws.{keep_collect, head_collect, each_ext, each_map}
use Rattle.chains.specs.Places.{places}
use Rattle.chains.proofs.PlaceLaws.{places_ext, head_places, keep_places}
use Rattle.calendar.specs.Clock.{clock}
use Rattle.rows.specs.Cells.{row_count, num, is}
use Rattle.sheet.specs.Places.{named}
use Rattle.findings.specs.declared.Violation.{Violation}
use Rattle.findings.specs.inner.Told.{Told, tell}
use Rattle.findings.proofs.Reporting.{tell_none, tell_append}
use Rattle.model.specs.Sheet.{sheet}
use Rattle.model.specs.Constraint.{constraint_at, members}
use Rattle.model.specs.Schedule.{Assignment, as_part, assignment_at, assignments_below, assignments, assignments_for_activity_all, capacity_exceeded}
use Rattle.model.proofs.RowLaws.{assignment_row, assignment_none}
use Rattle.model.proofs.ConstraintLaws.{overlap_row}
use Rattle.definition.specs.CheckConstraints.{first_on, overlapping, check_overlaps, check_constraint, check_constraint_at}
use Rattle.check9_constraints.specs.inner.Bookings.{booked_on, booking_of, bookings_of, overlap_at, overlap_of, pairs_of}
use Rattle.check9_constraints.proofs.Members.{members_are, map_each}

-- row k names the resource
abbrev pub on : List ℤ → ℕ → ℕ → Bool
on rows resource k = is rows k 3 resource

-- ---- the bookings of the members

module _ (rows : List ℤ) where
  booking : ℕ → Assignment ℤ
  booking k =
      record {
        activity = num rows k 1;
        task = num rows k 2;
        resource = num rows k 3;
        start = pos (num rows k 4);
        end = pos (num rows k 5);
        setup = num rows k 6;
        part = as_part ((sheet rows).cell k 7) ((sheet rows).cell k 8);
      }

  overlap_lem : (r a b : ℕ) → given (overlapping clock (sheet rows) (booking a) (booking b)) (capacity_exceeded 9 r) ≡ overlap_of rows (capacity_exceeded 9 r) a b
  unfolding overlap_at booking
  overlap_lem r a b = refl

  booked : Option ℕ → Option (Assignment ℤ)
  booked None = None
  booked (Some k) = Some (booking k)

  module _ (a r : ℕ) where
    taken : ℕ → List (Assignment ℤ)
    taken k = keep (λ x. eqb x.resource r) (keep (λ x. eqb x.activity a) (assignment_at (sheet rows) k))

    taken_at_lem : (k : ℕ) → head (taken k) ≡ booked (some_if (booked_on rows a r k) k)
    unfolding taken booked_on booked is keep booking
    taken_at_lem k = go (is rows k 0 23) refl
      where
        two : (b d : Bool) → head (keep (λ x. eqb x.resource r) (given b (booking k) ++ [])) ≡ booked (some_if (b && eqb (num rows k 3) r) k)
        two false d = refl
        two true d = go (eqb (num rows k 3) r)
          where
            go : (e : Bool) → head (given e (booking k) ++ []) ≡ booked (some_if e k)
            go true = refl
            go false = refl

        go : (b : Bool) → is rows k 0 23 ≡ b → head (taken k) ≡ booked (some_if (is rows k 0 23 && (is rows k 1 a && is rows k 3 r)) k)
        go true h = rw (h, assignment_row rows k h) (two (eqb (num rows k 1) a) true)
        go false h = rw (h, assignment_none rows k h)

    or_booked : (x y : Option ℕ) → or_else (booked x) (booked y) ≡ booked (or_else x y)
    unfolding booked
    or_booked None y = refl
    or_booked (Some k) y = refl

    first_taken : (n : ℕ) → first (λ k. head (taken k)) n ≡ booked (first_place (booked_on rows a r) n)
    unfolding first first_place booked
    first_taken zero = refl
    first_taken (suc n) = rw (first_taken n, taken_at_lem n) (or_booked (first_place (booked_on rows a r) n) (some_if (booked_on rows a r n) n))

    first_booked_lem : head (keep (λ x. eqb x.resource r) (assignments_for_activity_all (sheet rows) a)) ≡ booked (first_place (booked_on rows a r) (row_count rows))
    unfolding assignments_for_activity_all assignments assignments_below taken
    first_booked_lem =
        ap (λ l. head (keep (λ x. eqb x.resource r) l)) (keep_collect _ (assignment_at (sheet rows)) (row_count rows))
        ∙ ap head (keep_collect _ _ (row_count rows))
        ∙ head_collect _ (row_count rows)
        ∙ first_taken (row_count rows)

    first_on_is : first_on clock (sheet rows) r a ≡ map booking (option (first_place (booked_on rows a r) (row_count rows)) [] (λ k. k ∷ []))
    unfolding first_on booked
    first_on_is = rw first_booked_lem (go (first_place (booked_on rows a r) (row_count rows)))
      where
        go : (x : Option ℕ) → option (booked x) [] (λ y. y ∷ []) ≡ map booking (option x [] (λ k. k ∷ []))
        go None = refl
        go (Some k) = refl

  bookings_are : (p r : ℕ) → each (first_on clock (sheet rows) r) (members (sheet rows) p) ≡ map booking (bookings_of rows p r)
  unfolding bookings_of booking_of
  bookings_are p r =
      ap (each (first_on clock (sheet rows) r)) (members_are rows p)
      ∙ each_map (first_on clock (sheet rows) r) (λ k. num rows k 2) (places (named rows 22 p) (row_count rows))
      ∙ each_ext _ _ (λ k. first_on_is (num rows k 2) r) (places (named rows 22 p) (row_count rows))
      ∙ map_each booking _ (places (named rows 22 p) (row_count rows))

  pairs_are : (r : ℕ) (l : List ℕ) → check_overlaps clock (sheet rows) r (map booking l) ≡ pairs_of rows (capacity_exceeded 9 r) l
  unfolding check_overlaps pairs_of
  pairs_are r [] = refl
  pairs_are r (k ∷ l) = ap₂ ◌++◌ (each_map _ booking l ∙ each_ext _ _ (λ j. overlap_lem r k j) l) (pairs_are r l)

-- ---- in a loop, one booking after the other

module _ (rows : List ℤ) (f : Violation) (s : Told) where
  pub pairs_turn : {s' : Told} {a : ℕ} {m l : List ℕ} → m ≡ a ∷ l → s' ≡ tell s (each (overlap_of rows f a) l) → tell s' (pairs_of rows f l) ≡ tell s (pairs_of rows f m)
  unfolding pairs_of
  pairs_turn {a = a} {l = l} e h = ap (λ t. tell t (pairs_of rows f l)) h ∙ tell_append s (each (overlap_of rows f a) l) (pairs_of rows f l) ∙ ap (λ x. tell s (pairs_of rows f x)) (sym e)

  pub pairs_end : {t : Told} (m : List ℕ) → length m ≡ 0 → tell s (pairs_of rows f m) ≡ t → s ≡ t
  unfolding pairs_of
  pairs_end [] e h = sym (tell_none s) ∙ h
  pairs_end (a ∷ l) e h = absurd (omega arith)

-- ---- the constraint, and the search along an activity's bookings

-- the findings of the constraint in row k
pub overlaps_found : (rows : List ℤ) (k : ℕ) → is rows k 0 20 ≡ true
    → check_constraint_at clock (sheet rows) k ≡ pairs_of rows (capacity_exceeded 9 (num rows k 1)) (bookings_of rows (length (collect (constraint_at (sheet rows)) k)) (num rows k 1))
unfolding check_constraint_at check_constraint each
overlaps_found rows k h =
    rw (overlap_row rows k h, bookings_are rows (length (collect (constraint_at (sheet rows)) k)) (num rows k 1)) (append-nil _ ∙ pairs_are rows (num rows k 1) _)

-- the first booking of an activity on a resource, along the activity's bookings
pub first_kept : (rows : List ℤ) (a r : ℕ) → head (keep (on rows r) (places (named rows 23 a) (row_count rows))) ≡ first_place (booked_on rows a r) (row_count rows)
unfolding named booked_on
first_kept rows a r =
    ap head (keep_places (named rows 23 a) (on rows r) (row_count rows))
    ∙ ap head (places_ext _ _ (row_count rows) (λ k l. and_assoc (is rows k 0 23) (is rows k 1 a) (is rows k 3 r)))
    ∙ head_places (booked_on rows a r) (row_count rows)
