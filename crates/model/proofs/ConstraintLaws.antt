-- What a constraint's row is, by its kind. Assumes nothing.
use Prim.Native.Nat.{ℕ}
use mathlib.Core.Path.{◌≡◌, refl, sym, subst}
use mathlib.Core.Bool.{Bool, true, false}
use mathlib.Core.List.{List, [], ◌∷◌}
use lib.IntN.{ℤ, pos}
use Rattle.rows.specs.Cells.{cell, num, is}
use Rattle.sheet.proofs.Lookups.{is_num}
use Rattle.model.specs.Sheet.{sheet}
use Rattle.model.specs.Constraint.{Constraint, precedence, capacity, time_window, no_overlap, synchronize, constraint_at}

module _ (rows : List ℤ) (k : ℕ) where
  pub precedence_row : is rows k 0 17 ≡ true → constraint_at (sheet rows) k ≡ precedence (num rows k 1) (num rows k 2) (cell rows k 3) ∷ []
  unfolding constraint_at
  precedence_row h = rw (is_num rows k 0 17 h)

  pub capacity_row : is rows k 0 18 ≡ true → constraint_at (sheet rows) k ≡ capacity (num rows k 1) (cell rows k 2) ∷ []
  unfolding constraint_at
  capacity_row h = rw (is_num rows k 0 18 h)

  pub window_row_lem : is rows k 0 19 ≡ true → constraint_at (sheet rows) k ≡ time_window (num rows k 1) (pos (num rows k 2)) (pos (num rows k 3)) ∷ []
  unfolding constraint_at
  window_row_lem h = rw (is_num rows k 0 19 h)

  pub overlap_row : is rows k 0 20 ≡ true → constraint_at (sheet rows) k ≡ no_overlap (num rows k 1) ∷ []
  unfolding constraint_at
  overlap_row h = rw (is_num rows k 0 20 h)

  pub synchronize_row : is rows k 0 21 ≡ true → constraint_at (sheet rows) k ≡ synchronize ∷ []
  unfolding constraint_at
  synchronize_row h = rw (is_num rows k 0 21 h)

  other_row : is rows k 0 17 ≡ false → is rows k 0 18 ≡ false → is rows k 0 19 ≡ false → is rows k 0 20 ≡ false → is rows k 0 21 ≡ false
      → constraint_at (sheet rows) k ≡ []
  unfolding constraint_at is
  other_row p q a b d = rw (p, q, a, b, d)

  -- what holds of nothing and of each kind of constraint holds of the row
  pub by_constraint : (P : List (Constraint ℤ) → Type 0) → P []
      → (is rows k 0 17 ≡ true → P (precedence (num rows k 1) (num rows k 2) (cell rows k 3) ∷ []))
      → (is rows k 0 18 ≡ true → P (capacity (num rows k 1) (cell rows k 2) ∷ []))
      → (is rows k 0 19 ≡ true → P (time_window (num rows k 1) (pos (num rows k 2)) (pos (num rows k 3)) ∷ []))
      → (is rows k 0 20 ≡ true → P (no_overlap (num rows k 1) ∷ []))
      → (is rows k 0 21 ≡ true → P (synchronize ∷ []))
      → P (constraint_at (sheet rows) k)
  by_constraint P n a b c d e = go (is rows k 0 17) refl (is rows k 0 18) refl (is rows k 0 19) refl (is rows k 0 20) refl (is rows k 0 21) refl
    where
      go : (p : Bool) → is rows k 0 17 ≡ p → (q : Bool) → is rows k 0 18 ≡ q → (r : Bool) → is rows k 0 19 ≡ r → (s : Bool) → is rows k 0 20 ≡ s
          → (t : Bool) → is rows k 0 21 ≡ t → P (constraint_at (sheet rows) k)
      go true h q i r j s l t m = subst P (sym (precedence_row h)) (a h)
      go false h true i r j s l t m = subst P (sym (capacity_row i)) (b i)
      go false h false i true j s l t m = subst P (sym (window_row_lem j)) (c j)
      go false h false i false j true l t m = subst P (sym (overlap_row l)) (d l)
      go false h false i false j false l true m = subst P (sym (synchronize_row m)) (e m)
      go false h false i false j false l false m = subst P (sym (other_row h i j l m)) n
