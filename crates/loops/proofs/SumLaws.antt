-- Laws of sums and greatest values over a list. Assumes nothing.
use Prim.Native.Nat.{ℕ, ◌+◌, ◌*◌, ◌≤◌, max}
use mathlib.Core.Path.{◌≡◌}
use mathlib.Core.List.{List, [], ◌∷◌, ◌++◌}
use native.Mathlib.Nat.{suc-mul}
use native.Mathlib.Omega.{arith}
use lib.ListN.{length}
use Rattle.loops.specs.Lists.{each}
use Rattle.loops.specs.Sums.{total, most}

module _ {A : Type 0} (f : A → ℕ) where
  pub total_append : (l m : List A) → total f (l ++ m) ≡ total f l + total f m
  unfolding total
  total_append [] m = omega arith
  total_append (x ∷ l) m = let h = total_append l m in omega arith

  pub most_append : (l m : List A) → most f (l ++ m) ≡ max (most f l) (most f m)
  unfolding most
  most_append [] m = omega arith
  most_append (x ∷ l) m = let h = most_append l m in omega arith

  -- a sum over a list that is put together of parts, no part's sum being greater than m
  pub total_each : {B : Type 0} (g : B → List A) (m : ℕ) → ((x : B) → total f (g x) ≤ m) → (l : List B) → total f (each g l) ≤ length l * m
  unfolding total each
  total_each g m h [] = omega arith
  total_each g m h (x ∷ l) = omega (arith, total_append (g x) (each g l), h x, total_each g m h l, suc-mul (length l) m)

  pub most_within : (m : ℕ) → ((x : A) → f x ≤ m) → (l : List A) → most f l ≤ m
  unfolding most
  most_within m h [] = omega arith
  most_within m h (x ∷ l) = omega (arith, h x, most_within m h l)
