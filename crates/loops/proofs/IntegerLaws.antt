-- The order of the integers, and how large a sum is. Assumes nothing.
use Prim.Native.Nat.{ℕ, zero, suc, ◌+◌, ◌-◌, ◌≤◌}
use mathlib.Core.Path.{◌≡◌, refl, ap}
use mathlib.Core.Bool.{Bool, true, false, cond, true≢false, false≢true}
use native.Mathlib.Omega.{arith}
use lib.Dec.{ltb}
use lib.IntN.{ℤ, pos, negsuc, sub_ℕ, nat_abs, ◌+ℤ◌, ◌-ℤ◌}
use lib.Signed.{lt_z, mag}
use borrow.Author.Tests.{ltb-true, ltb-false, lt-ltb, le-ltb}

pub signed_trans : (x y z : ℤ) → lt_z x y ≡ true → lt_z y z ≡ true → lt_z x z ≡ true
signed_trans (pos a) (pos b) (pos c) e f = let l = ltb-true a b e in let m = ltb-true b c f in lt-ltb a c (omega arith)
signed_trans (pos a) (pos b) (negsuc c) e f = absurd (false≢true f)
signed_trans (pos a) (negsuc b) z e f = absurd (false≢true e)
signed_trans (negsuc a) (pos b) (pos c) e f = refl
signed_trans (negsuc a) (pos b) (negsuc c) e f = absurd (false≢true f)
signed_trans (negsuc a) (negsuc b) (pos c) e f = refl
signed_trans (negsuc a) (negsuc b) (negsuc c) e f = let l = ltb-true b a e in let m = ltb-true c b f in lt-ltb c a (omega arith)

pub signed_asym : (x y : ℤ) → lt_z x y ≡ true → lt_z y x ≡ false
signed_asym (pos a) (pos b) e = let l = ltb-true a b e in le-ltb b a (omega arith)
signed_asym (pos a) (negsuc b) e = absurd (false≢true e)
signed_asym (negsuc a) (pos b) e = refl
signed_asym (negsuc a) (negsuc b) e = let l = ltb-true b a e in le-ltb a b (omega arith)

pub signed_total : (x y : ℤ) → lt_z x y ≡ false → lt_z y x ≡ false → x ≡ y
signed_total (pos a) (pos b) e f = ap pos (let l = ltb-false a b e in let m = ltb-false b a f in omega arith)
signed_total (pos a) (negsuc b) e f = absurd (true≢false f)
signed_total (negsuc a) (pos b) e f = absurd (true≢false e)
signed_total (negsuc a) (negsuc b) e f = ap negsuc (let l = ltb-false b a e in let m = ltb-false a b f in omega arith)

-- ---- a sum, a difference

mag_sub : (a b : ℕ) → mag (sub_ℕ a b) ≤ a + b
mag_sub a b = go (ltb a b)
  where
    go : (t : Bool) → mag (cond t (negsuc (b - suc a)) (pos (a - b))) ≤ a + b
    go true = omega arith
    go false = omega arith

pub sum_mag : (a : ℕ) (z : ℤ) → mag (pos a +ℤ z) ≤ a + nat_abs z
sum_mag a (pos b) = omega arith
sum_mag a (negsuc b) = mag_sub a (suc b)

pub mag_abs : (z : ℤ) → mag z ≤ nat_abs z
mag_abs (pos n) = omega arith
mag_abs (negsuc n) = omega arith

sub_size : (a b : ℕ) → nat_abs (sub_ℕ a (suc b)) ≤ a + suc b
sub_size a b = go (ltb a (suc b))
  where
    go : (t : Bool) → nat_abs (cond t (negsuc (suc b - suc a)) (pos (a - suc b))) ≤ a + suc b
    go true = omega arith
    go false = omega arith

pub left_size : (z : ℤ) (n : ℕ) → nat_abs (z -ℤ pos n) ≤ nat_abs z + n
left_size (pos a) zero = omega arith
left_size (pos a) (suc n) = sub_size a n
left_size (negsuc a) zero = let h : nat_abs (negsuc a -ℤ pos 0) ≤ 0 + suc a = sub_size 0 a in omega arith
left_size (negsuc a) (suc n) = omega arith

-- two numbers that are no greater than m lie no further apart
pub apart : (a b m : ℕ) → a ≤ m → b ≤ m → nat_abs (pos a -ℤ pos b) ≤ m
apart a zero m h l = omega arith
apart a (suc b) m h l = go (ltb a (suc b))
  where
    go : (t : Bool) → nat_abs (cond t (negsuc (suc b - suc a)) (pos (a - suc b))) ≤ m
    go true = omega arith
    go false = omega arith
