-- The capacity of a resource: its own, lowered by the last capacity constraint. Assumes nothing.
use Prim.Native.Nat.{ℕ, zero, suc}
use mathlib.Core.Path.{◌≡◌, refl, ap, sym, ◌∙◌}
use mathlib.Core.Bool.{Bool, true, false, cond, ◌&&◌, true≢false}
use mathlib.Core.List.{List, [], append-nil, foldl}
use Rattle.std.specs.Int.{int_max}
use Rattle.std.specs.Prelude.{Option, None, Some}
use lib.Dec.{eqb}
use lib.IntN.{ℤ, pos, negsuc}
use native.Mathlib.Omega.{arith}
use Rattle.loops.specs.Lists.{given, last, each}
use Rattle.loops.specs.Numbers.{max_z}
use Rattle.loops.specs.Range.{fold, collect}
use Rattle.loops.specs.Search.{or_else}
use Rattle.loops.specs.inner.Chain.{only_at}
use Rattle.loops.proofs.ListLaws.{each_collect, last_append}
use Rattle.loops.proofs.RangeLaws.{collect_ext}
use Rattle.chains.specs.Places.{places}
use Rattle.chains.proofs.PlaceLaws.{foldl_only}
use Rattle.rows.specs.Cells.{row_count, cell, num, is}
use Rattle.sheet.specs.declared.Found.{Found}
use Rattle.sheet.specs.declared.Found.TheVariants.{Nothing}
use Rattle.sheet.specs.Places.{of_kind, place_of}
use Rattle.sheet.specs.inner.Found.{found_of}
use Rattle.model.specs.Sheet.{sheet}
use Rattle.model.specs.Constraint.{constraint_at, constraints}
use Rattle.model.proofs.ConstraintLaws.{capacity_row, by_constraint}
use Rattle.model.proofs.Finds.{find_resource_lem}
use Rattle.load.specs.Load.{capacity_of, cap_override, base_of}

-- the greater of a number and 1, either way round
pub one_or_more : (z : ℤ) → int_max z (pos 1) ≡ max_z z (pos 1)
one_or_more (pos n) = grind arith
one_or_more (negsuc n) = refl

module _ (rows : List ℤ) (x : ℕ) where
  -- the limit of a resource that is not in the sheet, before any constraint
  pub base_none : {f : Found} → found_of f ≡ place_of rows 11 x → f ≡ Nothing → pos 1 ≡ base_of (sheet rows) x
  unfolding base_of
  base_none h q = rw (find_resource_lem rows x, ← h, q)

  -- ---- the last constraint

  unfoldable pub later_cap : Option ℤ → ℕ → Option ℤ
  later_cap e k = cond (is rows k 1 x) (Some (cell rows k 2)) e

  pub cap_at : (k : ℕ) → each (capacity_of (sheet rows) x) (constraint_at (sheet rows) k) ≡ given (is rows k 0 18 && is rows k 1 x) (cell rows k 2)
  unfolding each is
  cap_at k = go (is rows k 0 18) refl
    where
      go : (b : Bool) → is rows k 0 18 ≡ b
          → each (capacity_of (sheet rows) x) (constraint_at (sheet rows) k) ≡ given (is rows k 0 18 && is rows k 1 x) (cell rows k 2)
      go true h = rw (capacity_row rows k h, h) (append-nil (given (eqb (num rows k 1) x) (cell rows k 2)))
      go false h =
          rw h
          (by_constraint rows k (λ l. each (capacity_of (sheet rows) x) l ≡ []) refl (λ e. refl) (λ e. absurd (true≢false (sym e ∙ h))) (λ e. refl) (λ e. refl) (λ e. refl))

  lowered : (n : ℕ) → fold (only_at (of_kind rows 18) later_cap) None n ≡ last (collect (λ k. given (is rows k 0 18 && is rows k 1 x) (cell rows k 2)) n)
  unfolding fold collect only_at later_cap of_kind
  lowered zero = unfold last in refl
  lowered (suc n) =
      go (is rows n 0 18) (is rows n 1 x) (fold (only_at (of_kind rows 18) later_cap) None n) (lowered n)
      ∙ sym (last_append (collect (λ k. given (is rows k 0 18 && is rows k 1 x) (cell rows k 2)) n) (given (is rows n 0 18 && is rows n 1 x) (cell rows n 2)))
    where
      go : (a b : Bool) (e : Option ℤ) → e ≡ last (collect (λ k. given (is rows k 0 18 && is rows k 1 x) (cell rows k 2)) n)
          → cond a (cond b (Some (cell rows n 2)) e) e
          ≡ or_else (last (given (a && b) (cell rows n 2))) (last (collect (λ k. given (is rows k 0 18 && is rows k 1 x) (cell rows k 2)) n))
      go true true e h = unfold last in refl
      go true false e h = unfold last in h
      go false b e h = unfold last in h

  pub override_is : foldl later_cap None (places (of_kind rows 18) (row_count rows)) ≡ cap_override (sheet rows) x
  unfolding cap_override constraints
  override_is =
      foldl_only (of_kind rows 18) later_cap None (row_count rows)
      ∙ lowered (row_count rows)
      ∙ ap last
      (sym
      (each_collect (capacity_of (sheet rows) x) (constraint_at (sheet rows)) (row_count rows) ∙ collect_ext _ _ (row_count rows) (λ k l. cap_at k)))
