-- Whether an activity is split: whether a row of kind 4 stands in its chain. Assumes nothing.
use Prim.Native.Nat.{ℕ, zero, suc}
use mathlib.Core.Path.{◌≡◌, refl, ap, sym, ◌∙◌}
use mathlib.Core.Bool.{Bool, true, false, ◌&&◌, ◌||◌}
use mathlib.Core.List.{List}
use Rattle.std.specs.Prelude.{Option, None, Some}
use lib.Dec.{eqb}
use lib.IntN.{ℤ}
use Rattle.loops.specs.Lists.{given, head, is_some}
use Rattle.loops.specs.Search.{or_else, first, any_below}
use Rattle.loops.proofs.ListLaws.{head_collect}
use Rattle.loops.proofs.PlaceLaws.{any_same}
use Rattle.rows.specs.Cells.{row_count, num, is}
use Rattle.sheet.specs.Places.{place_of}
use Rattle.sheet.proofs.Lookups.{is_num}
use Rattle.owners.specs.inner.Owners.{owner_kind, owned_by}
use Rattle.model.specs.Sheet.{sheet, row_at}
use Rattle.model.specs.inner.Records.{num_at, int_at}
use Rattle.model.specs.Activity.{Split, split}
use Rattle.model.proofs.RowLaws.{row_none, row_here}
use Rattle.model.proofs.OwnedLaws.{of_activity}

some_either : {A : Type 0} (x y : Option A) → is_some (or_else x y) ≡ (is_some x || is_some y)
some_either None y = refl
some_either (Some x) y = refl

first_some : {A : Type 0} (f : ℕ → Option A) (n : ℕ) → is_some (first f n) ≡ any_below (λ k. is_some (f k)) n
unfolding first any_below
first_some f zero = refl
first_some f (suc n) = some_either (first f n) (f n) ∙ ap (λ b. b || is_some (f n)) (first_some f n)

module _ (rows : List ℤ) (a : ℕ) where
  abbrev split_at : ℕ → List Split
  split_at k = given (eqb (num_at (sheet rows) k 1) (num rows a 1)) (record { max_parts = int_at (sheet rows) k 2; min_part = num_at (sheet rows) k 3; overhead = num_at (sheet rows) k 4 })

  given_some : {A : Type 0} (b : Bool) (x : A) → is_some (head (given b x)) ≡ b
  given_some true x = refl
  given_some false x = refl

  split_here : place_of rows 2 (num rows a 1) ≡ Some a → (k : ℕ) → is_some (head (row_at (sheet rows) 4 split_at k)) ≡ owned_by rows a 4 k
  split_here q k = go (is rows k 0 4) refl ∙ sym (of_activity rows 4 a (num rows a 1) (unfold owner_kind in refl) q k)
    where
      go : (b : Bool) → is rows k 0 4 ≡ b → is_some (head (row_at (sheet rows) 4 split_at k)) ≡ (is rows k 0 4 && is rows k 1 (num rows a 1))
      go true h =
          rw (row_here rows k 4 split_at h, h, is_num rows k 0 4 h)
          (unfold is in given_some (eqb (num rows k 1) (num rows a 1)) _)
      go false h = rw (row_none rows k 4 split_at h, h)

  -- an activity is split if a row of kind 4 belongs to it
  pub split_told : {r : Bool} → r ≡ any_below (owned_by rows a 4) (row_count rows) → place_of rows 2 (num rows a 1) ≡ Some a → r ≡ is_some (split (sheet rows) (num rows a 1))
  unfolding split
  split_told e q =
      e
      ∙ sym
      (ap is_some (head_collect (row_at (sheet rows) 4 split_at) (row_count rows))
      ∙ first_some (λ k. head (row_at (sheet rows) 4 split_at k)) (row_count rows)
      ∙ any_same _ _ (row_count rows) (λ k l. split_here q k))
