-- First bookings, row by row. Assumes nothing.
use Prim.Native.Nat.{ℕ, ◌<◌}
use mathlib.Core.Path.{◌≡◌, refl, ap, sym, ◌∙◌}
use mathlib.Core.Bool.{Bool, true, false, not, ◌&&◌, or-false, true≢false}
use mathlib.Core.List.{List, [], ◌∷◌, append-nil}
use Rattle.std.specs.Prelude.{Option, None, Some}
use Rattle.std.specs.Option.{option_eq}
use native.Mathlib.Decide.{dec_lt}
use borrow.Author.Tests.{eq-eqb, ne_eqb}
use native.Mathlib.Omega.{arith}
use lib.Dec.{eqb}
use lib.IntN.{ℤ}
use Rattle.loops.specs.Lists.{given, keep, head, any_of, each}
use Rattle.loops.specs.Search.{first_place, any_below}
use Rattle.loops.proofs.ListLaws.{any_collect}
use Rattle.loops.proofs.PlaceLaws.{any_same, place_none, found_at, none_before}
use Rattle.loops.proofs.SearchLaws.{any_hit, none_below}
use Rattle.chains.specs.Places.{places}
use Rattle.chains.proofs.PlaceLaws.{places_ext, keep_places, head_places}
use Rattle.sheet.proofs.Lookups.{num_is}
use Rattle.rows.specs.Cells.{row_count, num, is}
use Rattle.sheet.specs.Places.{of_kind}
use Rattle.model.specs.Sheet.{sheet}
use Rattle.model.specs.Schedule.{assignment_at, assignments_below}
use Rattle.model.proofs.RowLaws.{assignment_row, assignment_none}
use Rattle.load.specs.Load.{first_booked, booked_at}
use Rattle.load.specs.inner.Firsts.{booked_above, is_first}

module _ (rows : List ℤ) (x : ℕ) where
  -- row k is a booking of the resource
  unfoldable pub booked : ℕ → Bool
  booked k = is rows k 0 23 && is rows k 3 x

  row_booked : (k : ℕ) → any_of (λ y. eqb y.resource x) (assignment_at (sheet rows) k) ≡ booked k
  unfolding any_of booked is
  row_booked k = go (is rows k 0 23) refl
    where
      go : (b : Bool) → is rows k 0 23 ≡ b → any_of (λ y. eqb y.resource x) (assignment_at (sheet rows) k) ≡ (is rows k 0 23 && is rows k 3 x)
      go true h = rw (h, assignment_row rows k h) (or-false (eqb (num rows k 3) x))
      go false h = rw (h, assignment_none rows k h)

  booked_are : (k : ℕ) → any_below booked k ≡ booked_above rows k x
  unfolding assignments_below
  booked_are k =
      sym (any_collect (λ y. eqb y.resource x) (assignment_at (sheet rows)) k ∙ any_same _ _ k (λ j l. row_booked j))

-- ---- the walk

module _ (rows : List ℤ) (k : ℕ) where
  module _ (l : k < row_count rows) (h : is rows k 0 23 ≡ true) where
    itself : booked rows (num rows k 3) k ≡ true
    unfolding booked
    itself = rw h (num_is rows k 3 (num rows k 3) refl)

    -- the first booking of its resource, where that is looked for
    leading : (x : Option ℕ) → first_place (booked rows (num rows k 3)) (row_count rows) ≡ x
        → option_eq eqb x (Some k) ≡ not (any_below (booked rows (num rows k 3)) k)
    leading None e = absurd (let z : ◌≡◌ {A = Bool} true false = sym itself ∙ place_none (booked rows (num rows k 3)) (row_count rows) e k l in true≢false z)
    leading (Some i) e = go (dec_lt i k) (dec_lt k i)
      where
        go : Dec (i < k) → Dec (k < i) → eqb i k ≡ not (any_below (booked rows (num rows k 3)) k)
        go (yes a) d = rw (← any_hit (booked rows (num rows k 3)) i k k a refl (found_at (booked rows (num rows k 3)) (row_count rows) i e).1) (ne_eqb i k (λ z. omega arith))
        go (no a) (yes b) = absurd (true≢false (sym itself ∙ none_before (booked rows (num rows k 3)) (row_count rows) i e k b))
        go (no a) (no b) =
            let z : i ≡ k = omega arith in
            rw (none_below (booked rows (num rows k 3)) k (λ j c. none_before (booked rows (num rows k 3)) (row_count rows) i e j (omega arith))) (eq-eqb i k z)

    pub first_told : (x : ℕ) {o : Option ℕ} {r : Bool} → x ≡ num rows k 3 → o ≡ head (keep (λ i. is rows i 3 x) (places (of_kind rows 23) (row_count rows)))
        → r ≡ option_eq eqb o (Some k) → r ≡ is_first rows k
    unfolding is_first of_kind booked
    first_told x e f g =
        g
        ∙ ap (λ y. option_eq eqb y (Some k))
        (f ∙ ap head (keep_places (of_kind rows 23) (λ i. is rows i 3 x) (row_count rows)) ∙ head_places (booked rows x) (row_count rows))
        ∙ ap (λ x. option_eq eqb (first_place (booked rows x) (row_count rows)) (Some k)) e
        ∙ leading (first_place (booked rows (num rows k 3)) (row_count rows)) refl
        ∙ rw h (ap not (booked_are rows (num rows k 3) k))

-- the bookings that are first bookings are all these
pub firsts_are : (rows : List ℤ) → keep (is_first rows) (places (of_kind rows 23) (row_count rows)) ≡ places (is_first rows) (row_count rows)
unfolding is_first of_kind
firsts_are rows =
    keep_places (of_kind rows 23) (is_first rows) (row_count rows)
    ∙ places_ext _ _ (row_count rows) (λ k l. go (is rows k 0 23) (not (booked_above rows k (num rows k 3))))
  where
    go : (a b : Bool) → (a && (a && b)) ≡ (a && b)
    go true b = refl
    go false b = refl

-- the walk passes over a booking that is none, and comes to one
module _ (q : ℕ → Bool) {k : ℕ} {l l' : List ℕ} {b : Bool} (e : l ≡ k ∷ l') (f : b ≡ q k) where
  pub passed_over : b ≡ false → keep q l ≡ keep q l'
  unfolding keep
  passed_over h = rw (e, ← f, h) refl

  pub came_to : b ≡ true → keep q l ≡ k ∷ keep q l'
  unfolding keep
  came_to h = rw (e, ← f, h) refl

pub at_end : (q : ℕ → Bool) {l : List ℕ} → l ≡ [] → keep q l ≡ []
unfolding keep
at_end q e = rw e refl

-- the resource of row k, where that is a first booking
pub booked_at_lem : (rows : List ℤ) (k : ℕ) → booked_at (sheet rows) k ≡ given (is_first rows k) (num rows k 3)
unfolding booked_at first_booked is_first each
booked_at_lem rows k = go (is rows k 0 23) refl
  where
    go : (b : Bool) → is rows k 0 23 ≡ b → each (first_booked (sheet rows) (assignments_below (sheet rows) k)) (assignment_at (sheet rows) k)
        ≡ given (is rows k 0 23 && not (booked_above rows k (num rows k 3))) (num rows k 3)
    go true h = rw (assignment_row rows k h, h) (append-nil (given (not (booked_above rows k (num rows k 3))) (num rows k 3)))
    go false h = rw (assignment_none rows k h, h)
