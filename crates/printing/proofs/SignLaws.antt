-- The magnitude of a signed number, and its spelling. A signed local holds bits, and is read back from them, `to_z w64 (of_z w64 z)`. Assumes nothing.
use Prim.Native.Nat.{ℕ, zero, suc, ◌-◌}
use mathlib.Core.Path.{◌≡◌, refl}
use mathlib.Core.Bool.{true, false}
use mathlib.Core.List.{List, [], ◌∷◌}
use native.Mathlib.Omega.{arith}
use lib.IntN.{ℤ, pos, negsuc, neg_ℤ, nat_abs, ◌+ℤ◌, ◌-ℤ◌, +ℤ_idl}
use lib.Signed.{lt_z}
use mir.Syntax.{w64}
use mir.Val.{SFits, to_z, of_z}
use mir.Facts.{to_z-of_z}
use borrow.Author.Tests.{le-leb}
use Rattle.loops.specs.inner.Wrote.{Wrote}
use Rattle.loops.proofs.StoreLaws.{wrote_as, wrote_then}
use Rattle.loops.proofs.SignLaws.{below_zero, from_zero}
use Rattle.printing.specs.Decimal.{decimal, spelling}

-- one more than a negative number, and what is negated twice
neg_up : (m : ℕ) → negsuc m +ℤ pos 1 ≡ neg_ℤ (pos m)
neg_up zero = refl
neg_up (suc m) = let e : suc (suc m) - 2 ≡ m = omega arith in rw (le-leb 2 (suc (suc m)) (omega arith), e)

neg_back : (m : ℕ) → pos 0 -ℤ neg_ℤ (pos m) ≡ pos m
neg_back zero = +ℤ_idl (pos 0)
neg_back (suc m) = +ℤ_idl (pos (suc m))

module _ (z : ℤ) (f : SFits w64 z) (e : lt_z (to_z w64 (of_z w64 z)) (pos 0) ≡ true) where
  abbrev m : ℕ
  m = (below_zero z f e).0

  is : z ≡ negsuc m
  is = (below_zero z f e).1

  -- the spelling by the magnitude
  minus : (n : ℕ) → n ≡ nat_abs (to_z w64 (of_z w64 z)) → 45 ∷ decimal n ≡ spelling z
  unfolding spelling
  minus n q = rw (q, to_z-of_z f, is)

  pub wrote_minus : {l m o : List ℕ} {i j k n : ℕ} → n ≡ nat_abs (to_z w64 (of_z w64 z)) → Wrote l i m j (45 ∷ []) → Wrote m j o k (decimal n) → Wrote l i o k (spelling z)
  wrote_minus {n = n} q v w = wrote_as (minus n q) (wrote_then (45 ∷ []) (decimal n) v w)

plain : (z : ℤ) → SFits w64 z → lt_z (to_z w64 (of_z w64 z)) (pos 0) ≡ false → (n : ℕ) → n ≡ nat_abs (to_z w64 (of_z w64 z)) → decimal n ≡ spelling z
unfolding spelling
plain z f e n q = rw (q, to_z-of_z f, (from_zero z f e).1)

pub wrote_plain : (z : ℤ) → SFits w64 z → lt_z (to_z w64 (of_z w64 z)) (pos 0) ≡ false → {l o : List ℕ} {i k n : ℕ} → n ≡ nat_abs (to_z w64 (of_z w64 z)) → Wrote l i o k (decimal n) → Wrote l i o k (spelling z)
wrote_plain z f e {n = n} q w = wrote_as (plain z f e n q) w
