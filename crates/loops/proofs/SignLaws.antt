-- A signed local holds bits, and a test or a cast reads the number back from them, `to_z w64 (of_z w64 z)`. These say what a test against 0 told of z itself.
-- Assumes nothing.
use Prim.Native.Nat.{ℕ, zero, suc, ◌^◌, ◌<◌}
use mathlib.Core.Path.{◌≡◌, refl, subst}
use mathlib.Core.Bool.{true, false}
use native.Mathlib.Omega.{arith}
use native.Mathlib.Nat.{not-suc-le-zero}
use borrow.Author.Tests.{ltb-true}
use lib.Dec.{T}
use lib.IntN.{ℤ, pos, negsuc, neg_ℤ, nat_abs}
use lib.Signed.{lt_z, non_neg, mag}
use mir.Syntax.{w64}
use mir.Val.{Fits, SFits, to_z, of_z}
use mir.Facts.{to_z-of_z}

signed : (z : ℤ) → lt_z z (pos 0) ≡ true → (m : ℕ) × (z ≡ negsuc m)
signed (pos n) e = absurd (not-suc-le-zero (ltb-true n 0 e))
signed (negsuc m) e = (m, refl)

plain : (z : ℤ) → lt_z z (pos 0) ≡ false → (n : ℕ) × (z ≡ pos n)
plain (pos n) e = (n, refl)
plain (negsuc m) e = absurd (subst T e tt)

module _ (z : ℤ) (f : SFits w64 z) where
  pub below_zero : lt_z (to_z w64 (of_z w64 z)) (pos 0) ≡ true → (m : ℕ) × (z ≡ negsuc m)
  below_zero e = signed z (rw (to_z-of_z f) at e)

  pub from_zero : lt_z (to_z w64 (of_z w64 z)) (pos 0) ≡ false → (n : ℕ) × (z ≡ pos n)
  from_zero e = plain z (rw (to_z-of_z f) at e)

  -- what a cast to u64 asks, in its two parts
  pub cast_sign : lt_z (to_z w64 (of_z w64 z)) (pos 0) ≡ false → T (non_neg (to_z w64 (of_z w64 z)))
  cast_sign e = let p = from_zero e in rw (to_z-of_z f, p.1) tt

  pub cast_fits : lt_z (to_z w64 (of_z w64 z)) (pos 0) ≡ false → Fits w64 (nat_abs (to_z w64 (of_z w64 z)))
  cast_fits e = let p = from_zero e in rw (to_z-of_z f, p.1) (record { fits = omega (arith, (rw p.1 at f).sfits) })

-- a number of 63 bits can be negated
pub negated_fits : (n : ℕ) → n < 2 ^ 63 → SFits w64 (neg_ℤ (pos n))
negated_fits n h = record { sfits = go n h }
  where
    go : (n : ℕ) → n < 2 ^ 63 → mag (neg_ℤ (pos n)) < 2 ^ 63
    go zero k = k
    go (suc n) k = omega arith
