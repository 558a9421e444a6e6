-- A float below 2 ^ 53 that is rounded is a whole number below it, which the cut of it is. Assumes nothing.
use Rattle.std.proofs.Common.{◌≡◌, ℕ, zero, suc, ◌+◌, ◌-◌, ◌*◌, ◌/◌, ◌%◌, ◌^◌, ◌<◌, ◌≤◌, Bool, true, false, not, ◌&&◌, ◌||◌, T, eqb, ltb, leb, ℤ, pos, negsuc, sym, refl, ap, ◌∙◌, subst, true≢false, le_of_eq, lt_of_lt_of_le, le_of_suc-le-suc, mul-le-mul_right, zero-lt-suc, mul_assoc, mul_comm, mul_left_comm, mul-one, one-mul, div-lt_iff_lt-mul, lt_of_mul-lt-mul_right, mul-lt-mul_of_pos_right, lt_of_not-le, not-le_of_lt, mul-pos, pow-suc, le-div_iff_mul-le, zero-mul, arith, lit≤, eqb→eq, ltb→lt, lt→ltb, leb→le, pow_pos, pow_mono, pow-add, w64, Fits, ltb-false, ltb-true, le-ltb, lt-ltb}
use native.Mathlib.Nat.{add-div_right, div-div-eq-div-mul, div-eq_of_lt, eq_of_mul-eq-mul_right, zero-div}
use lib.Pow.{pow-lt}
use lib.Ieee.{Float, nan, inf, fin, Format, binary64, low, prec, emax, up, down, round, mul, div, of_int, lt, le, fits, to_unsigned, of_bits, is_nan, nan_bits}
use lib.Ieee.Fits.{up_pos, down_pos, and_l, and_r}
use lib.Ieee.Exact.{HasValue, round_exact}
use lib.Ieee.Nearest.{div_same}
use lib.Ieee.Back.{round_whole}
use Rattle.std.specs.Float.{float_round, round_with}
use Rattle.std.proofs.Math.Nat.{div-one}
use lib.Ieee.Positive.{num, den, den_pos}
use lib.Ieee.Digits.{back}
use Rattle.rounding.specs.Rounding.{half_up, rounded, divided_by}
use Rattle.rounding.specs.inner.Limited.{limited, too_large}
use Rattle.rounding.specs.declared.TooLarge.{TooLarge}
use Rattle.std.specs.Prelude.{Some, Result, Ok}
use lib.Ieee.Bits.{nan_bits_is, nan_bits_above}

-- (2n / d + 1) / 2 is the half rounded up. What rounds here does so by the library's `round`; docs/PORT.md names this law.
half_of_double : (n d : ℕ) → 0 < d → (n * 2 / d + 1) / 2 ≡ half_up n d
unfolding half_up
half_of_double n d h =
    ap (λ (z : ℕ). z / 2) (sym (add-div_right (n * 2) h)) ∙ div-div-eq-div-mul (n * 2 + d) d 2 ∙ ap (λ (z : ℕ). (z + d) / (d * 2)) (mul_comm n 2) ∙ ap (λ (z : ℕ). (2 * n + d) / z) (mul_comm d 2)

-- up e / down e is 2 ^ places of the format's smallest values
places : Format → ℤ → ℕ
places f (pos k) = k + low f
places f (negsuc k) = low f - suc k

exponent_le : (k l : ℕ) → 2 ^ k ≤ 2 ^ l → k ≤ l
exponent_le k l h = le_of_suc-le-suc (lt_of_not-le (λ (g : suc l ≤ k). not-le_of_lt (pow-lt g) h))

in_places : (f : Format) (e : ℤ) → down e ≤ 2 ^ low f → up e * 2 ^ low f ≡ 2 ^ places f e * down e
unfolding places
in_places f (pos k) h = sym (pow-add 2 k (low f)) ∙ sym (mul-one (2 ^ (k + low f)))
in_places f (negsuc k) h =
    one-mul (2 ^ low f) ∙ ap (λ (z : ℕ). 2 ^ z) (sym (back (low f) (suc k) (exponent_le (suc k) (low f) h))) ∙ pow-add 2 (low f - suc k) (suc k)

-- what `fits` says of a number
fits_digits : (f : Format) (s : Bool) (m : ℕ) (e : ℤ) → T (fits f (fin s m e)) → m < 2 ^ prec f
unfolding fits
fits_digits f s zero e t = pow_pos (prec f)
fits_digits f s (suc m) e t =
    ltb→lt (suc m) (2 ^ prec f)
    (and_r (eqb (suc m % 2) 1) (ltb (suc m) (2 ^ prec f))
    (and_l (eqb (suc m % 2) 1 && ltb (suc m) (2 ^ prec f)) (leb (down e) (2 ^ low f))
    (and_l (eqb (suc m % 2) 1 && ltb (suc m) (2 ^ prec f) && leb (down e) (2 ^ low f)) (ltb (suc m * up e) (2 ^ suc (emax f) * down e)) t)))

fits_low : (f : Format) (s : Bool) (m : ℕ) (e : ℤ) → T (fits f (fin s m e)) → down e ≤ 2 ^ low f
unfolding fits
fits_low f s zero e t =
    let p : 1 * down e ≤ up e * down e = mul-le-mul_right (down e) (up_pos e) in
    let q : up e * down e ≡ 1 = eqb→eq (up e * down e) 1 t in
    let r : 0 < 2 ^ low f = pow_pos (low f) in
    omega arith
fits_low f s (suc m) e t =
    leb→le (down e) (2 ^ low f)
    (and_r (eqb (suc m % 2) 1 && ltb (suc m) (2 ^ prec f)) (leb (down e) (2 ^ low f))
    (and_l (eqb (suc m % 2) 1 && ltb (suc m) (2 ^ prec f) && leb (down e) (2 ^ low f)) (ltb (suc m * up e) (2 ^ suc (emax f) * down e)) t))

-- ---- twice a float is exact
module _ (f : Format) (s : Bool) (m : ℕ) (e : ℤ) (t : T (fits f (fin s m e))) (h : m * up e * 2 < 2 ^ suc (emax f) * down e) where
  twice_places : m * up e * 2 * 2 ^ low f ≡ m * 2 ^ suc (places f e) * down e
  twice_places =
      simp (mul_assoc, mul_comm, mul_left_comm, pow-suc)
      (simp (mul_assoc, mul_comm) at (ap (λ (z : ℕ). m * 2 * z) (in_places f e (fits_low f s m e t))))

  twice_below : m * 2 ^ suc (places f e) < 2 ^ (low f + suc (emax f))
  twice_below =
      let l = 2 ^ low f in
      let a : m * up e * 2 * l < 2 ^ suc (emax f) * down e * l = mul-lt-mul_of_pos_right h (pow_pos (low f)) in
      let b : 2 ^ suc (emax f) * down e * l ≡ 2 ^ (low f + suc (emax f)) * down e = simp (mul_assoc, mul_comm, mul_left_comm, pow-add) in
      lt_of_mul-lt-mul_right (down e) (subst (λ (z : ℕ). z < 2 ^ (low f + suc (emax f)) * down e) twice_places (lt_of_lt_of_le a (le_of_eq b)))

  twice_exact : HasValue (round f s (m * up e * 2) (down e * 1)) s (m * up e * 2) (down e)
  twice_exact =
      subst (λ (z : ℕ). HasValue (round f s (m * up e * 2) (down e * 1)) s (m * up e * 2) z) (mul-one (down e))
      (round_exact f s (m * up e * 2) (down e * 1) m (suc (places f e)) (mul-pos (down_pos e) (pow_pos 0)) (fits_digits f s m e t) twice_below
      (twice_places ∙ ap (λ (z : ℕ). m * 2 ^ suc (places f e) * z) (sym (mul-one (down e)))))

-- ---- a float cut to a whole number
-- y is above -1 and below 2 ^ 64, and its whole part is a / c
pub record Cut (y : Float) (a c : ℕ) : Type 0 where
  pub above : T (lt (fin true 1 (pos 0)) y)
  pub below : T (lt y (fin false 1 (pos 64)))
  pub whole : to_unsigned 64 y ≡ a / c

pub cut_of_value : (y : Float) (s : Bool) (a c : ℕ) → HasValue y s a c → 0 < c → (s ≡ true → a ≡ 0) → a < 2 ^ 64 * c → Cut y a c
unfolding lt to_unsigned
cut_of_value nan s a c v C z h = absurd v
cut_of_value (inf t) s a c v C z h = absurd v
cut_of_value (fin true n d) s a c v C z h =
    let None : n * up d * c ≡ 0 = v.1 ∙ ap (λ (x : ℕ). x * down d) (z (sym v.0)) ∙ zero-mul (down d) in
    let zero-num : n * up d ≡ 0 = eq_of_mul-eq-mul_right c C (n * up d) 0 (None ∙ sym (zero-mul c)) in
    let one = down_pos d in
    record {
      above = lt→ltb (n * up d * 1) (1 * 1 * down d) (omega arith);
      below = lt→ltb 0 (n * up d * 1 + 1 * 2 ^ 64 * down d) (omega arith);
      whole = sym (ap (λ (x : ℕ). x / c) (z (sym v.0)) ∙ zero-div c);
    }
cut_of_value (fin false n d) s a c v C z h =
    let same : n * up d / down d ≡ a / c = div_same (n * up d) (down d) a c (down_pos d) C v.1 in
    let low : a / c < 2 ^ 64 = (div-lt_iff_lt-mul C).1 h in
    let below' : n * up d < 2 ^ 64 * down d = (div-lt_iff_lt-mul (down_pos d)).0 (subst (λ (x : ℕ). x < 2 ^ 64) (sym same) low) in
    let one = down_pos d in
    record {
      above = lt→ltb 0 (1 * 1 * down d + n * up d * 1) (omega arith);
      below = lt→ltb (n * up d * 1) (1 * 2 ^ 64 * down d) (omega arith);
      whole = omega arith;
    }

-- ---- a float from 0 to below 2 ^ 53
size_zero : (m : ℕ) (e : ℤ) → le (fin false 0 (pos 0)) (fin true m e) ≡ true → m * up e ≡ 0
unfolding le
size_zero m e p =
    let q : 0 * down e ≡ m * up e * 1 = eqb→eq (0 * down e) (m * up e * 1) (and_l (eqb (0 * down e) (m * up e * 1)) (false || eqb (0 * down e) 0) (subst T (sym p) tt)) in
    omega arith

-- twice it
from_exact : (s : Bool) (m : ℕ) (e : ℤ) → T (fits binary64 (fin s m e)) → (s ≡ true → m * up e ≡ 0) → m * up e < 2 ^ 53 * down e
    → Cut (round binary64 s (m * up e * 2) (down e * 1)) (m * up e * 2) (down e) × (m * up e * 2 / down e < 2 ^ 54)
from_exact s m e t z h =
    let h2 : m * up e * 2 < 2 ^ 54 * down e = omega arith in (
      cut_of_value (round binary64 s (m * up e * 2) (down e * 1)) s (m * up e * 2) (down e)
          (twice_exact binary64 s m e t (lt_of_lt_of_le h2 (mul-le-mul_right (down e) (pow_mono {i = 54} {j = 1024} (lit≤ tt))))) (down_pos e) (λ p. ap (λ (x : ℕ). x * 2) (z p)) (omega arith),
      (div-lt_iff_lt-mul (down_pos e)).1 (omega arith),
    )

doubled : (x : Float) → T (fits binary64 x) → le (fin false 0 (pos 0)) x ≡ true → lt x (fin false 1 (pos 53)) ≡ true
    → Cut (mul binary64 x (fin false 1 (pos 1))) (num x * 2) (den x) × (num x * 2 / den x < 2 ^ 54)
unfolding lt mul le
doubled nan t p q = absurd (true≢false (sym q))
doubled (inf true) t p q = absurd (true≢false (sym p))
doubled (inf false) t p q = absurd (true≢false (sym q))
doubled (fin true m e) t p q =
    let z = size_zero m e p in
    from_exact true m e t (λ _. z) (omega (arith, down_pos e))
doubled (fin false m e) t p q =
    let h : m * up e * 1 < 1 * 2 ^ 53 * down e = ltb→lt (m * up e * 1) (1 * 2 ^ 53 * down e) (subst T (sym q) tt) in
    from_exact false m e t (λ r. absurd (true≢false (sym r))) (omega arith)

-- ---- the limit

pub limit_within : (n : ℕ) → n < 2 ^ 53 → Ok n ≡ limited (Some n)
unfolding limited
limit_within n h = rw (lt-ltb n (2 ^ 53) h)

pub limit_beyond : (n : ℕ) → 2 ^ 53 ≤ n → too_large ≡ limited (Some n)
unfolding limited
limit_beyond n h = rw (le-ltb n (2 ^ 53) h)

-- ---- what `rounded` is, by the tests of the code

-- a float below 2 ^ 53 has no half to round up from 2 ^ 52 on
half_below : (f : Format) (s : Bool) (m : ℕ) (e : ℤ) → prec f ≡ 53 → T (fits f (fin s m e)) → m * up e < 2 ^ 53 * down e → half_up (m * up e) (down e) < 2 ^ 53
unfolding half_up
half_below f s m (pos k) p t h = omega arith
half_below f s m (negsuc k) p t h =
    let d : 2 ^ suc k ≡ 2 ^ k * 2 = pow-suc 2 k in
    let D : 0 < 2 ^ k = pow_pos k in
    let b : m < 2 ^ 53 = subst (λ (n : ℕ). m < 2 ^ n) p (fits_digits f s m (negsuc k) t) in
    (div-lt_iff_lt-mul {k = 2 * 2 ^ suc k} (omega arith)).1 (omega arith)

half_above : (n d : ℕ) → 0 < d → 2 ^ 53 * d ≤ n → 2 ^ 53 ≤ half_up n d
unfolding half_up
half_above n d D h = (le-div_iff_mul-le {k = 2 * d} (omega arith)).1 (omega arith)

below_limit : (x : Float) → T (fits binary64 x) → le (fin false 0 (pos 0)) x ≡ true → lt x (fin false 1 (pos 53)) ≡ true → Ok (half_up (num x) (den x)) ≡ limited (rounded x)
unfolding rounded
below_limit nan t p q = absurd (true≢false (sym (unfold lt in q)))
below_limit (inf true) t p q = absurd (true≢false (sym (unfold le in p)))
below_limit (inf false) t p q = absurd (true≢false (sym (unfold lt in q)))
below_limit (fin true zero e) t p q =
    let D = down_pos e in
    let h : half_up (0 * up e) (down e) ≡ 0 = unfold half_up in div-eq_of_lt (omega arith) in
    rw h (limit_within 0 (omega arith))
below_limit (fin true (suc m) e) t p q =
    let z : suc m * up e ≡ 0 = size_zero (suc m) e p in
    let h : 0 < suc m * up e = mul-pos (zero-lt-suc m) (up_pos e) in
    absurd (omega arith)
below_limit (fin false m e) t p q =
    let q' : ltb (m * up e * 1) (1 * 2 ^ 53 * down e) ≡ true = unfold lt in q in
    let h : m * up e * 1 < 1 * 2 ^ 53 * down e = ltb-true (m * up e * 1) (1 * 2 ^ 53 * down e) q' in
    limit_within _ (half_below binary64 false m e refl t (omega arith))

pub above_limit : (x : Float) → lt x (fin false 1 (pos 53)) ≡ false → too_large ≡ limited (rounded x)
unfolding rounded limited lt
above_limit nan q = refl
above_limit (inf s) q = refl
above_limit (fin true zero e) q =
    let D = down_pos e in
    let h : 0 < 0 * up e * 1 + 1 * 2 ^ 53 * down e = omega arith in
    absurd (true≢false (sym (lt-ltb 0 (0 * up e * 1 + 1 * 2 ^ 53 * down e) h) ∙ q))
above_limit (fin true (suc m) e) q = refl
above_limit (fin false m e) q =
    let h : 1 * 2 ^ 53 * down e ≤ m * up e * 1 = ltb-false (m * up e * 1) (1 * 2 ^ 53 * down e) q in
    limit_beyond _ (half_above (m * up e) (down e) (down_pos e) (omega arith))

from_zero : (a b : ℕ) → a ≡ 0 → (ltb a b || (eqb a b && true)) ≡ true
from_zero a zero e = rw e
from_zero a (suc b) e = rw (lt-ltb a (suc b) (omega arith))

pub below_zero : (x : Float) → le (fin false 0 (pos 0)) x ≡ false → too_large ≡ limited (rounded x)
unfolding rounded limited le
below_zero nan p = refl
below_zero (inf s) p = refl
below_zero (fin true zero e) p = absurd (true≢false (simp zero-mul at p))
below_zero (fin true (suc m) e) p = refl
below_zero (fin false m e) p = absurd (true≢false (sym (from_zero (0 * 1 * down e) (m * up e * 1) (zero-mul (down e))) ∙ p))

-- ---- patterns of a NaN

is_nan_lem : (x : Float) → is_nan x ≡ true → nan ≡ x
unfolding is_nan
is_nan_lem nan h = refl
is_nan_lem (inf s) h = absurd (true≢false (sym h))
is_nan_lem (fin s m e) h = absurd (true≢false (sym h))

pub nan_above : (b : ℕ) → 0x7ff0_0000_0000_0000 < b % 2 ^ 63 → nan ≡ of_bits binary64 b
nan_above b h = is_nan_lem (of_bits binary64 b) (sym (nan_bits_is binary64 b) ∙ nan_bits_above binary64 b ∙ lt-ltb (2047 * 2 ^ 52) (b % 2 ^ 63) h)

pub number_below : (b : ℕ) → b % 2 ^ 63 ≤ 0x7ff0_0000_0000_0000 → T (not (nan_bits binary64 b))
number_below b h = rw (nan_bits_above, le-ltb (2047 * 2 ^ 52) (b % 2 ^ 63) h) tt

-- ---- what the code works out
whole : (s : Bool) (n : ℕ) → (s ≡ true → n ≡ 0) → n < 2 ^ 53 → Cut (round binary64 s n 1) n 1
whole s n z h = cut_of_value (round binary64 s n 1) s n 1 (round_whole binary64 s n (omega arith)) (omega arith) z (omega arith)

rounded_cut : (x : Float) → T (fits binary64 x) → le (fin false 0 (pos 0)) x ≡ true → lt x (fin false 1 (pos 53)) ≡ true → Cut (float_round binary64 x) (half_up (num x) (den x)) 1
unfolding round_with half_up
rounded_cut nan t p q = absurd (true≢false (sym (unfold lt in q)))
rounded_cut (inf true) t p q = absurd (true≢false (sym (unfold le in p)))
rounded_cut (inf false) t p q = absurd (true≢false (sym (unfold lt in q)))
rounded_cut (fin true m e) t p q =
    let D = down_pos e in
    let z : half_up (m * up e) (down e) ≡ 0 = rw (size_zero m e p) (div-eq_of_lt (omega arith)) in
    whole true (half_up (m * up e) (down e)) (λ _. z) (omega arith)
rounded_cut (fin false m e) t p q =
    let q' : ltb (m * up e * 1) (1 * 2 ^ 53 * down e) ≡ true = unfold lt in q in
    let h : m * up e * 1 < 1 * 2 ^ 53 * down e = ltb-true (m * up e * 1) (1 * 2 ^ 53 * down e) q' in
    whole false (half_up (m * up e) (down e)) (λ r. absurd (true≢false (sym r))) (half_below binary64 false m e refl t (omega arith))

module _ (x : Float) {y : Float} (t : T (fits binary64 x)) (p : le (fin false 0 (pos 0)) x ≡ true) (q : lt x (fin false 1 (pos 53)) ≡ true) (r : y ≡ float_round binary64 x) where
  cut : Cut y (half_up (num x) (den x)) 1
  cut = rw r (rounded_cut x t p q)

  pub round_above : T (lt (fin true 1 (pos 0)) y)
  round_above = cut.above

  pub round_under : T (lt y (fin false 1 (pos 64)))
  round_under = cut.below

  pub nearest_is : {k : ℕ} → k ≡ to_unsigned 64 y → Ok k ≡ limited (rounded x)
  nearest_is e = ap Ok (e ∙ cut.whole ∙ div-one (half_up (num x) (den x))) ∙ below_limit x t p q

-- ---- the same by twice the float, cut
module _ (x : Float) (t : T (fits binary64 x)) (p : le (fin false 0 (pos 0)) x ≡ true) (q : lt x (fin false 1 (pos 53)) ≡ true) where
  pub twice_above : T (lt (fin true 1 (pos 0)) (mul binary64 x (fin false 1 (pos 1))))
  twice_above = (doubled x t p q).0.above

  pub twice_under : T (lt (mul binary64 x (fin false 1 (pos 1))) (fin false 1 (pos 64)))
  twice_under = (doubled x t p q).0.below

  module _ (k : ℕ) (e : k ≡ to_unsigned 64 (mul binary64 x (fin false 1 (pos 1)))) where
    pub twice_fits : Fits w64 (k + 1)
    twice_fits = let d = doubled x t p q in record { fits = omega (arith, d.0.whole, d.1) }

    pub nearest_by_twice : Ok ((k + 1) / 2) ≡ limited (rounded x)
    nearest_by_twice = ap (λ (n : ℕ). Ok ((n + 1) / 2)) (e ∙ (doubled x t p q).0.whole) ∙ ap Ok (half_of_double (num x) (den x) (den_pos x)) ∙ below_limit x t p q

pub divided_is : (process : ℕ) (product : Float) {x : Float} {r : Result ℕ TooLarge} → r ≡ limited (rounded (div binary64 x product)) → x ≡ of_int binary64 (pos process)
    → r ≡ limited (divided_by process product)
unfolding divided_by
divided_is process product g e = rw (← e) g
