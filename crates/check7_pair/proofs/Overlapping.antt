-- The overlap of an activity is that of its first row of kind 3; its numbers lie in their classes. Assumes nothing.
use Prim.Native.Nat.{ℕ, suc, ◌+◌, ◌^◌, ◌<◌, ◌≤◌}
use mathlib.Core.Path.{◌≡◌, refl, sym, ap, ◌∙◌}
use mathlib.Core.Bool.{Bool, true, false, ◌&&◌}
use mathlib.Core.List.{List}
use Rattle.std.specs.Prelude.{None, Some}
use native.Mathlib.Omega.{arith}
use lib.Dec.{T, eqb}
use lib.IntN.{ℤ, pos, negsuc, nat_abs, ◌+ℤ◌}
use lib.Signed.{mag}
use mir.Syntax.{w64}
use mir.Val.{to_z, of_z, hbits}
use mir.Facts.{to_z-of_z}
use borrow.Author.Rules.{sfits_of}
use Rattle.loops.specs.Lists.{given, head, option}
use Rattle.loops.specs.Search.{first_place, some_if}
use Rattle.loops.proofs.ListLaws.{head_collect, head_given}
use Rattle.loops.proofs.IntegerLaws.{left_size}
use Rattle.loops.proofs.PlaceLaws.{found_at}
use Rattle.model.proofs.Finds.{first_same, first_placed}
use Rattle.rows.specs.Cells.{row_count, cell, num, is}
use Rattle.rows.proofs.Signed.{signed_time}
use Rattle.sheet.specs.Places.{place_of}
use Rattle.sheet.specs.inner.Accepted.{Accepted}
use Rattle.sheet.proofs.Lookups.{is_num}
use Rattle.owners.specs.inner.Owners.{owner_kind, owned_by}
use Rattle.calendar.specs.Clock.{clock}
use Rattle.overlap.specs.declared.Overlap.{Overlap}
use Rattle.overlap.specs.Bounds.{overlap_of, earliest_end}
use Rattle.overlap.specs.inner.Shares.{is_share}
use Rattle.overlap.proofs.Laws.{bits_share}
use Rattle.model.specs.Sheet.{sheet, row_at}
use Rattle.model.specs.inner.Records.{num_at, int_at}
use Rattle.model.specs.Activity.{overlap}
use Rattle.model.proofs.RowLaws.{row_none, row_here}
use Rattle.model.proofs.Accepting.{at_most, in_class_lem}
use Rattle.model.proofs.OwnedLaws.{of_activity, owned_kind}

-- ---- the first row of kind 3 of activity `id`, the head-given of row o

module _ (rows : List ℤ) (o id : ℕ) where
  abbrev lap : ℕ → List Overlap
  lap k = given (eqb (num_at (sheet rows) k 1) id) (overlap_of (num_at (sheet rows) k 2) (int_at (sheet rows) k 3))

  lap_at : place_of rows 2 id ≡ Some o → (k : ℕ) → head (row_at (sheet rows) 3 lap k) ≡ some_if (owned_by rows o 3 k) (overlap_of (num rows k 2) (cell rows k 3))
  lap_at q k = rw (of_activity rows 3 o id (unfold owner_kind in refl) q k) (go (is rows k 0 3) refl)
    where
      go : (b : Bool) → is rows k 0 3 ≡ b → head (row_at (sheet rows) 3 lap k) ≡ some_if (is rows k 0 3 && is rows k 1 id) (overlap_of (num rows k 2) (cell rows k 3))
      go true h = unfold is in (rw (row_here rows k 3 lap h, h, is_num rows k 0 3 h) (head_given (eqb (num rows k 1) id) (overlap_of (num rows k 2) (cell rows k 3))))
      go false h = rw (row_none rows k 3 lap h, h)

  overlap_is : place_of rows 2 id ≡ Some o → overlap (sheet rows) id ≡ option (first_place (owned_by rows o 3) (row_count rows)) None (λ k. Some (overlap_of (num rows k 2) (cell rows k 3)))
  unfolding overlap
  overlap_is q =
      head_collect (row_at (sheet rows) 3 lap) (row_count rows)
      ∙ first_same _ _ (row_count rows) (lap_at q)
      ∙ first_placed (owned_by rows o 3) (λ k. overlap_of (num rows k 2) (cell rows k 3)) (row_count rows)

  pub overlap_row : (k : ℕ) → Some k ≡ first_place (owned_by rows o 3) (row_count rows) → place_of rows 2 id ≡ Some o → overlap (sheet rows) id ≡ Some (overlap_of (num rows k 2) (cell rows k 3))
  overlap_row k e q = overlap_is q ∙ ap (λ x. option x None (λ k. Some (overlap_of (num rows k 2) (cell rows k 3)))) (sym e)

  pub no_overlap_lem : None ≡ first_place (owned_by rows o 3) (row_count rows) → place_of rows 2 id ≡ Some o → overlap (sheet rows) id ≡ None
  no_overlap_lem e q = overlap_is q ∙ ap (λ x. option x None (λ k. Some (overlap_of (num rows k 2) (cell rows k 3)))) (sym e)

pub first_kind : (rows : List ℤ) (o k : ℕ) → Some k ≡ first_place (owned_by rows o 3) (row_count rows) → is rows k 0 3 ≡ true
first_kind rows o k e = owned_kind rows o 3 k (found_at (owned_by rows o 3) (row_count rows) k (sym e)).1

-- ---- the numbers of an overlap

sum_abs : (a : ℕ) (z : ℤ) → nat_abs (pos a +ℤ z) ≤ a + nat_abs z
sum_abs a (pos b) = omega arith
sum_abs a (negsuc b) = left_size (pos a) (suc b)

module _ (rows : List ℤ) (acc : Accepted rows) (k : ℕ) (h : is rows k 0 3 ≡ true) (bits : ℕ) {v : Overlap} (lag : ℤ) (w : v ≡ overlap_of bits (to_z w64 (of_z w64 lag))) (m : mag lag < 2 ^ hbits w64) where
  o : v ≡ overlap_of bits lag
  o = rw (to_z-of_z (sfits_of m)) at w

  pub share_is : bits ≡ num rows k 2 → T (is_share v.start_after)
  share_is e = rw (o, e) (bits_share (num rows k 2) (at_most rows acc k 3 2 h))

  module _ (e : lag ≡ cell rows k 3) where
    pub lag_most : nat_abs v.finish_after_ms ≤ 4000000000000
    lag_most = rw (o, e) (signed_time (cell rows k 3) (in_class_lem rows acc k 3 3 h))

    pub end_most : (n : ℕ) (x : ℤ) → n ≤ 4000000000000 → x ≡ earliest_end clock v (pos n) → mag x < 2 ^ hbits w64 → nat_abs (to_z w64 (of_z w64 x)) ≤ 8000000000000
    end_most n x l f u = rw (to_z-of_z (sfits_of u), f) (let a = sum_abs n v.finish_after_ms in let b = lag_most in omega arith)
