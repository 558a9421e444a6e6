-- The bookings of an activity, row by row along its chain. Assumes nothing.
use Prim.Native.Nat.{ℕ}
use mathlib.Core.Path.{◌≡◌, refl, ◌∙◌}
use mathlib.Core.Bool.{Bool, true, false, cond, ◌&&◌}
use mathlib.Core.List.{List, [], ◌∷◌, ◌++◌}
use Rattle.std.specs.Prelude.{Some}
use lib.Dec.{eqb}
use lib.IntN.{ℤ}
use Rattle.loops.specs.Lists.{given, keep}
use Rattle.loops.specs.Range.{collect}
use Rattle.loops.specs.inner.Chain.{only}
use Rattle.loops.proofs.ListLaws.{keep_collect}
use Rattle.loops.proofs.RangeLaws.{collect_ext}
use Rattle.rows.specs.Cells.{row_count, num, is}
use Rattle.sheet.specs.Places.{place_of}
use Rattle.owners.specs.inner.Owners.{owner_kind, owned_by}
use Rattle.model.specs.Sheet.{sheet}
use Rattle.model.specs.Schedule.{assignment_at, assignments_below, assignments, assignments_for_activity_all}
use Rattle.model.proofs.RowLaws.{assignment_row, assignment_none}
use Rattle.model.proofs.OwnedLaws.{of_activity}
use Rattle.pieces.proofs.Companions.{booking}

module _ (rows : List ℤ) where
  module _ (o : ℕ) (q : place_of rows 2 (num rows o 1) ≡ Some o) where
    booked_at_lem : (k : ℕ) → keep (λ a. eqb a.activity (num rows o 1)) (assignment_at (sheet rows) k) ≡ only (owned_by rows o 23) (λ k. booking rows k ∷ []) k
    unfolding only
    booked_at_lem k = rw (of_activity rows 23 o (num rows o 1) (unfold owner_kind in refl) q k) (go (is rows k 0 23) refl)
      where
        one : (b : Bool) → given b (booking rows k) ++ [] ≡ cond b (booking rows k ∷ []) []
        one true = refl
        one false = refl

        go : (b : Bool) → is rows k 0 23 ≡ b
            → keep (λ a. eqb a.activity (num rows o 1)) (assignment_at (sheet rows) k) ≡ cond (is rows k 0 23 && is rows k 1 (num rows o 1)) (booking rows k ∷ []) []
        go true h = rw (h, assignment_row rows k h) (unfold keep is in one (eqb (num rows k 1) (num rows o 1)))
        go false h = rw (h, assignment_none rows k h) (unfold keep in refl)

    pub bookings_of : assignments_for_activity_all (sheet rows) (num rows o 1) ≡ collect (only (owned_by rows o 23) (λ k. booking rows k ∷ [])) (row_count rows)
    unfolding assignments_for_activity_all assignments assignments_below
    bookings_of = keep_collect _ (assignment_at (sheet rows)) (row_count rows) ∙ collect_ext _ _ (row_count rows) (λ k l. booked_at_lem k)
