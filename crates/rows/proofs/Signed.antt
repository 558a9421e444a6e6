-- The bounds of a number of a class. Assumes nothing.
use Prim.Native.Nat.{ℕ, ◌≤◌}
use mathlib.Core.Path.{◌≡◌, refl}
use mathlib.Core.Bool.{true, false, ◌&&◌}
use native.Mathlib.Omega.{arith}
use lib.Dec.{leb}
use lib.IntN.{ℤ, pos, negsuc, nat_abs}
use lib.Signed.{le_z}
use borrow.Author.Tests.{leb-true}
use Rattle.loops.proofs.BoolLaws.{and_left, and_right, or_left}
use Rattle.rows.specs.Ranges.{between, in_range, in_class}
use Rattle.rows.specs.declared.Class.TheVariants.{Number, SignedTime}

pub number_in : (x : ℤ) → in_class Number x ≡ true → (le_z (negsuc 999999) x && le_z x (pos 1000000)) ≡ true
unfolding in_class in_range between
number_in x e = or_left (le_z (negsuc 999999) x && le_z x (pos 1000000)) false e refl

pub number_low : (n : ℕ) → in_class Number (negsuc n) ≡ true → n ≤ 999999
number_low n e = leb-true n 999999 (and_left (leb n 999999) true (number_in (negsuc n) e))

pub number_high : (n : ℕ) → in_class Number (pos n) ≡ true → n ≤ 1000000
number_high n e = leb-true n 1000000 (and_right true (leb n 1000000) (number_in (pos n) e))

pub signed_time : (x : ℤ) → in_class SignedTime x ≡ true → nat_abs x ≤ 4000000000000
unfolding in_class in_range between
signed_time (pos n) e = leb-true n 4000000000000 (and_right true (leb n 4000000000000) (or_left (true && leb n 4000000000000) false e refl))
signed_time (negsuc n) e = omega (arith, leb-true n 3999999999999 (and_left (leb n 3999999999999) true (or_left (leb n 3999999999999 && true) false e refl)))
