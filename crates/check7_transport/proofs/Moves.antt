-- The first row that gives a move's time. Assumes nothing.
use Prim.Native.Nat.{ℕ, ◌≤◌}
use mathlib.Core.Path.{◌≡◌, refl, sym, ap, ◌∙◌}
use mathlib.Core.Bool.{Bool, true, false, ◌&&◌}
use mathlib.Core.List.{List}
use Rattle.std.specs.Prelude.{Option, None, Some}
use lib.Dec.{eqb}
use lib.IntN.{ℤ}
use Rattle.loops.specs.Lists.{given, head, option}
use Rattle.loops.specs.Search.{first_place, some_if}
use Rattle.loops.proofs.ListLaws.{head_collect, head_given}
use Rattle.loops.proofs.PlaceLaws.{found_at}
use Rattle.rows.specs.Cells.{row_count, num, is}
use Rattle.sheet.specs.Places.{place_of}
use Rattle.sheet.specs.Refusals.{lacks}
use Rattle.sheet.specs.inner.Accepted.{Accepted}
use Rattle.sheet.specs.declared.Found.{Found}
use Rattle.sheet.specs.declared.Found.TheVariants.{Nothing}
use Rattle.sheet.specs.inner.Found.{found_of}
use Rattle.sheet.proofs.Lookups.{is_num}
use Rattle.model.specs.Sheet.{sheet, row_at}
use Rattle.model.specs.inner.Records.{num_at}
use Rattle.model.specs.Resource.{transport_to}
use Rattle.model.proofs.RowLaws.{row_none, row_here}
use Rattle.model.proofs.Accepting.{at_most, has_owner}
use Rattle.model.proofs.Finds.{first_same, first_placed}
use Rattle.pieces.specs.inner.Bookings.{names}
use Rattle.pieces.proofs.Chains.{names_kind, place_never, unnamed}

module _ (rows : List ℤ) where
  module _ (a b : ℕ) where
    move : ℕ → List ℕ
    move k = given (eqb (num_at (sheet rows) k 1) a && eqb (num_at (sheet rows) k 2) b) (num_at (sheet rows) k 3)

    move_at : (k : ℕ) → head (row_at (sheet rows) 14 move k) ≡ some_if (names rows 14 a b k) (num rows k 3)
    unfolding move
    move_at k = go (is rows k 0 14) refl
      where
        go : (c : Bool) → is rows k 0 14 ≡ c → head (row_at (sheet rows) 14 move k) ≡ some_if (names rows 14 a b k) (num rows k 3)
        go true h = unfold names is in (rw (row_here rows k 14 move h, h, is_num rows k 0 14 h) (head_given (eqb (num rows k 1) a && eqb (num rows k 2) b) (num rows k 3)))
        go false h = unfold names in (rw (row_none rows k 14 move h, h))

    -- what the search finds
    moves : transport_to (sheet rows) a b ≡ option (first_place (names rows 14 a b) (row_count rows)) 0 (λ k. num rows k 3)
    unfolding transport_to move
    moves =
        ap (λ x. option x 0 (λ n. n))
        (head_collect (row_at (sheet rows) 14 move) (row_count rows) ∙ first_same _ _ (row_count rows) move_at ∙ first_placed (names rows 14 a b) (λ k. num rows k 3) (row_count rows))
        ∙ go (first_place (names rows 14 a b) (row_count rows))
      where
        go : (x : Option ℕ) → option (option x None (λ k. Some (num rows k 3))) 0 (λ n. n) ≡ option x 0 (λ k. num rows k 3)
        go None = refl
        go (Some k) = refl

    module _ {f : Option ℕ} (e : f ≡ first_place (names rows 14 a b) (row_count rows)) where
      pub move_is : (k : ℕ) {r v : ℕ} → a ≡ v → f ≡ Some k → r ≡ num rows k 3 → r ≡ transport_to (sheet rows) v b
      move_is k q z g = rw (← q) (g ∙ sym (moves ∙ ap (λ x. option x 0 (λ k. num rows k 3)) (sym e ∙ z)))

      pub no_move : {v : ℕ} → a ≡ v → f ≡ None → 0 ≡ transport_to (sheet rows) v b
      no_move q z = rw (← q) (sym (moves ∙ ap (λ x. option x 0 (λ k. num rows k 3)) (sym e ∙ z)))

      pub move_most : Accepted rows → (k : ℕ) {r : ℕ} → f ≡ Some k → r ≡ num rows k 3 → r ≤ 4000000000000
      move_most acc k z g = rw g (at_most rows acc k 14 3 (names_kind rows 14 a b k (found_at _ (row_count rows) k (sym e ∙ z)).1))

  -- a resource that is not in the sheet has none
  pub unmoved : Accepted rows → (a b : ℕ) {f : Found} → found_of f ≡ place_of rows 11 a → f ≡ Nothing → 0 ≡ transport_to (sheet rows) a b
  unmoved acc a b p q =
      no_move a b (sym (place_never _ (row_count rows) (unnamed rows acc 14 11 a b (λ i m g. unfold lacks in (has_owner rows acc i 14 1 m g)) (sym (ap found_of q) ∙ p)))) refl refl
