-- A share of a span. Assumes nothing.
use Rattle.std.proofs.Common.{◌≡◌, ℕ, zero, suc, ◌+◌, ◌-◌, ◌*◌, ◌/◌, ◌%◌, ◌^◌, ◌<◌, ◌≤◌, Bool, true, false, cond, not, ◌&&◌, ◌||◌, T, eqb, ltb, leb, ◌⊎◌, pos, negsuc, ◌+ℤ◌, ◌-ℤ◌, neg_ℤ, sym, refl, ap, ◌∙◌, subst, inl, inr, true≢false, le_trans, le_of_eq, lt_of_le_of_lt, mul-le-mul_right, mod-lt, mod-eq_of_lt, mul_comm, div-lt_iff_lt-mul, add-mul, mul-le-mul, lt_of_mul-lt-mul_right, eq-or-lt_of_le, mul-lt-mul_of_pos_right, mul-pos, div-add-mod', mul-one, mul_right_comm, le_of_mul-le-mul_right, mul_left_comm, arith, lit≤, le→leb, eqb→eq, ltb→lt, leb→le, pow_pos, pow_mono, ltb-false, ltb-true, le-ltb, lt-ltb, ne_eqb}
use native.Mathlib.Nat.{div-eq_of_lt-le}
use borrow.Author.Tests.{lt-leb}
use lib.Ieee.{Float, nan, inf, fin, Format, binary64, prec, emax, low, up, down, odd, units, round, mul, of_int, lt, le, to_unsigned, neg, of_fields, of_bits}
use lib.Ieee.Fits.{down_pos, round_is}
use lib.Ieee.Exact.{HasValue, odd_sign}
use lib.Ieee.Back.{round_whole}
use Rattle.std.specs.Float.{ceil, round_with}
use Rattle.std.proofs.Math.Nat.{div-one}
use lib.Ieee.Order.{round_mono}
use lib.Ieee.Positive.{num, den}
use Rattle.rounding.proofs.Laws.{Cut, cut_of_value}
use Rattle.overlap.specs.Bounds.{ceil_div, ceiling, ceiling_share}
use Rattle.overlap.specs.inner.Shares.{is_share, product}

-- ---- a float that is finite with its sign clear
abbrev pub plain : Float → Bool
plain nan = false
plain (inf s) = false
plain (fin s m e) = not s

-- a rounding with the sign clear is plain or the infinity
abbrev clear : Float → Bool
clear nan = false
clear (inf s) = not s
clear (fin s m e) = not s

odd_clear : (d q k l : ℕ) → T (clear (odd d false q k l))
unfolding odd
odd_clear d zero k l = tt
odd_clear d (suc q) k l = tt

units_clear : (f : Format) (q k : ℕ) → T (clear (units f false q k))
unfolding units
units_clear f q k = go (ltb (q * 2 ^ k) (2 ^ (low f + suc (emax f))))
  where
    go : (b : Bool) → T (clear (cond b (odd (suc (prec f)) false q k (low f)) (inf false)))
    go true = odd_clear (suc (prec f)) q k (low f)
    go false = tt

round_clear : (f : Format) (a c : ℕ) → T (clear (round f false a c))
round_clear f a c = rw round_is (units_clear f _ _)

-- ---- a value that is no more than a plain one
or_le : (a b : ℕ) → T (ltb a b || (eqb a b && true)) → a ≤ b
or_le a b = go (ltb a b) (eqb a b) (ltb→lt a b) (eqb→eq a b)
  where
    go : (x y : Bool) → (T x → a < b) → (T y → a ≡ b) → T (x || (y && true)) → a ≤ b
    go true y h k t = let l = h tt in omega arith
    go false true h k t = let e = k tt in omega arith
    go false false h k t = absurd t

-- x ≤ y, and y is n
pub at_most : (x y : Float) (n : ℕ) → T (clear x) → HasValue y false n 1 → T (le x y) → T (plain x) × (num x ≤ n * den x)
unfolding le
at_most nan y n c v t = absurd c
at_most (inf true) y n c v t = absurd c
at_most (inf false) nan n c v t = absurd v
at_most (inf false) (inf s) n c v t = absurd v
at_most (inf false) (fin s m e) n c v t = absurd t
at_most (fin true p g) y n c v t = absurd c
at_most (fin false p g) nan n c v t = absurd v
at_most (fin false p g) (inf s) n c v t = absurd v
at_most (fin false p g) (fin true m e) n c v t = absurd (true≢false v.0)
at_most (fin false p g) (fin false m e) n c v t = (
  tt,
  let h : p * up g * down e ≤ m * up e * down g = or_le (p * up g * down e) (m * up e * down g) t in
      let k : m * up e * 1 ≡ n * down e = v.1 in
      let l : m * up e * down g ≡ n * down g * down e = ap (λ (z : ℕ). z * down g) (sym (mul-one (m * up e)) ∙ k) ∙ mul_right_comm n (down e) (down g) in
      le_of_mul-le-mul_right (le_trans h (le_of_eq l)) (down_pos e),
)

-- ---- a share of a span
pub share_of_lem : (s : Float) (n : ℕ) → T (is_share s) → n ≤ 2 ^ 53 → T (plain (product s n)) × (num (product s n) ≤ n * den (product s n))
unfolding is_share mul of_int
share_of_lem nan n t h = absurd t
share_of_lem (inf s) n t h = absurd t
share_of_lem (fin true m e) n t h = absurd t
share_of_lem (fin false m e) n t h = go (round binary64 false n 1) (round_whole binary64 false n h)
  where
    go : (y : Float) → HasValue y false n 1 → T (plain (mul binary64 (fin false m e) y)) × (num (mul binary64 (fin false m e) y) ≤ n * den (mul binary64 (fin false m e) y))
    go nan v = absurd v
    go (inf s) v = absurd v
    go (fin true p g) v = absurd (true≢false v.0)
    go (fin false p g) v =
        let a = m * up e * (p * up g) in
        let c = down e * down g in
        let k : p * up g ≡ n * down g = sym (mul-one (p * up g)) ∙ v.1 in
        let l : a ≤ down e * (p * up g) = mul-le-mul_right (p * up g) (leb→le (m * up e) (down e) t) in
        let r : down e * (p * up g) ≡ n * c = ap (λ (z : ℕ). down e * z) k ∙ mul_left_comm (down e) n (down g) in
        at_most (round binary64 false a c) (round binary64 false n 1) n (round_clear binary64 a c) (round_whole binary64 false n h)
        (round_mono binary64 a c n 1 (mul-pos (down_pos e) (down_pos g)) (pow_pos 0) (omega arith))

-- what is known of a plain float that is at most n
pub record Held (x : Float) (n : ℕ) : Type 0 where
  pub cut : Cut x (num x) (den x)
  pub whole_le : num x / den x ≤ n

pub held : (x : Float) (n : ℕ) → n ≤ 2 ^ 53 → T (plain x) × (num x ≤ n * den x) → Held x n
held nan n h k = absurd k.0
held (inf s) n h k = absurd k.0
held (fin true m e) n h k = absurd k.0
held (fin false m e) n h k =
    let q : m * up e / down e < n + 1 = (div-lt_iff_lt-mul (down_pos e)).1 (let D = down_pos e in let K = k.1 in let M = add-mul n 1 (down e) in omega arith) in
    record {
      cut = cut_of_value (fin false m e) false (m * up e) (down e) (refl, refl) (down_pos e) (λ r. absurd (true≢false (sym r)))
          (lt_of_le_of_lt k.1 (mul-lt-mul_of_pos_right {m = n} {n = 2 ^ 64} (omega arith) (down_pos e)));
      whole_le = omega arith;
    }

-- a plain float to the next whole number
ceil_cut : (x : Float) (n : ℕ) → n ≤ 2 ^ 53 → T (plain x) × (num x ≤ n * den x) → Cut (ceil binary64 x) (ceil_div (num x) (den x)) 1 × (ceil_div (num x) (den x) ≤ n)
unfolding round_with
ceil_cut nan n h k = absurd k.0
ceil_cut (inf s) n h k = absurd k.0
ceil_cut (fin true m e) n h k = absurd k.0
ceil_cut (fin false m e) n h k =
    let D = down_pos e in
    let l : ceil_div (m * up e) (down e) < n + 1 = (div-lt_iff_lt-mul D).1 (let K = k.1 in let M = add-mul n 1 (down e) in omega arith) in
    let c : (m * up e + down e - 1) / down e ≡ ceil_div (m * up e) (down e) = ap (λ (z : ℕ). z / down e) (omega arith) in (
      rw c
          (cut_of_value (round binary64 false (ceil_div (m * up e) (down e)) 1) false (ceil_div (m * up e) (down e)) 1
          (round_whole binary64 false (ceil_div (m * up e) (down e)) (omega arith)) (omega arith) (λ r. absurd (true≢false (sym r))) (omega arith)),
      omega arith,
    )

-- k < x as floats
pub whole_lt : (k : ℕ) (x : Float) → k ≤ 2 ^ 53 → T (plain x) → (lt (of_int binary64 (pos k)) x ≡ true → k * den x < num x) × (lt (of_int binary64 (pos k)) x ≡ false → num x ≤ k * den x)
unfolding lt of_int
whole_lt k nan h t = absurd t
whole_lt k (inf s) h t = absurd t
whole_lt k (fin true m e) h t = absurd t
whole_lt k (fin false m e) h t = go (round binary64 false k 1) (round_whole binary64 false k h)
  where
    go : (y : Float) → HasValue y false k 1 → (lt y (fin false m e) ≡ true → k * down e < m * up e) × (lt y (fin false m e) ≡ false → m * up e ≤ k * down e)
    go nan v = absurd v
    go (inf s) v = absurd v
    go (fin true p g) v = absurd (true≢false v.0)
    go (fin false p g) v =
        let l : p * up g * down e ≡ k * down e * down g = ap (λ (z : ℕ). z * down e) (sym (mul-one (p * up g)) ∙ v.1) ∙ mul_right_comm k (down g) (down e) in (
          (λ b. lt_of_mul-lt-mul_right (down g) (subst (λ (z : ℕ). z < m * up e * down g) l (ltb-true (p * up g * down e) (m * up e * down g) b))),
          (λ b. le_of_mul-le-mul_right (subst (λ (z : ℕ). m * up e * down g ≤ z) l (ltb-false (p * up g * down e) (m * up e * down g) b)) (down_pos g)),
        )

-- the next whole number
pub ceil_more : (a d : ℕ) → 0 < d → a / d * d < a → a / d + 1 ≡ ceil_div a d
ceil_more a d D h =
    let r = mod-lt a D in
    let s = div-add-mod' a d in
    let u = add-mul (a / d) 1 d in
    let v = add-mul (a / d + 1) 1 d in
    sym (div-eq_of_lt-le d (omega arith) (omega arith))

pub ceil_same : (a d : ℕ) → 0 < d → a ≤ a / d * d → a / d ≡ ceil_div a d
ceil_same a d D h =
    let s = div-add-mod' a d in
    let u = add-mul (a / d) 1 d in
    sym (div-eq_of_lt-le d (omega arith) (omega arith))

-- ---- the bit patterns of the floats from 0.0 to 1.0
of_value : (y : Float) (a c : ℕ) → 0 < c → HasValue y false a c → a ≤ c → T (is_share y)
unfolding is_share
of_value nan a c C v h = absurd v
of_value (inf s) a c C v h = absurd v
of_value (fin true m e) a c C v h = absurd (true≢false v.0)
of_value (fin false m e) a c C v h =
    le→leb (m * up e) (down e) (le_of_mul-le-mul_right (le_trans (le_of_eq v.1) (le_trans (mul-le-mul_right (down e) h) (le_of_eq (mul_comm c (down e))))) C)

digits_le : (x t : ℕ) → x ≤ 1022 → t < 2 ^ 52 → (x ≡ 1022 → t ≡ 0) → (2 ^ 52 + t) * 2 ^ x ≤ 2 ^ 1074
digits_le x t h k z = go (eq-or-lt_of_le h)
  where
    go : (x ≡ 1022) ⊎ (x < 1022) → (2 ^ 52 + t) * 2 ^ x ≤ 2 ^ 1074
    go (inl e) = subst (λ (w : ℕ). (2 ^ 52 + w) * 2 ^ x ≤ 2 ^ 1074) (sym (z e)) (subst (λ (w : ℕ). (2 ^ 52 + 0) * 2 ^ w ≤ 2 ^ 1074) (sym e) (lit≤ tt))
    go (inr l) = le_trans (mul-le-mul {n₂ = 2 ^ 53} {m₂ = 2 ^ 1021} (omega arith) (pow_mono {i = x} {j = 1021} (omega arith))) (lit≤ tt)

fields_share : (x t : ℕ) → x ≤ 1023 → t < 2 ^ 52 → (x ≡ 1023 → t ≡ 0) → T (is_share (of_fields binary64 false x t))
unfolding of_fields
fields_share zero t h k z =
    of_value (odd 53 false t 0 1074) (t * 2 ^ 0) (2 ^ 1074) (pow_pos 1074) (odd_sign 53 false t 0 1074)
    (le_trans (mul-le-mul {n₂ = 2 ^ 52} {m₂ = 1} (omega arith) (omega arith)) (lit≤ tt))
fields_share (suc x) t h k z =
    rw (ne_eqb (suc x) 2047 (omega arith))
    (of_value (odd 53 false (2 ^ 52 + t) x 1074) ((2 ^ 52 + t) * 2 ^ x) (2 ^ 1074) (pow_pos 1074) (odd_sign 53 false (2 ^ 52 + t) x 1074)
    (digits_le x t (omega arith) k (λ e. z (ap suc e))))

pub bits_share : (b : ℕ) → b ≤ 0x3ff0_0000_0000_0000 → T (is_share (of_bits binary64 b))
unfolding of_bits
bits_share b h =
    let m : b % 2 ^ 63 ≡ b = mod-eq_of_lt (omega arith) in
    rw (lt-leb (2 ^ 63) b (omega arith), m) (fields_share (b / 2 ^ 52) (b % 2 ^ 52) (omega arith) (omega arith) (omega arith))

-- ---- what the two roundings of a share of a span are
pub span_held : (n : ℕ) → n ≤ 4000000000000 → T (leb n (2 ^ 53))
span_held n h = le→leb n (2 ^ 53) (omega arith)

module _ (s : Float) (n : ℕ) (t : T (is_share s)) (h : n ≤ 4000000000000) where
  known : Held (product s n) n
  known = held (product s n) n (omega arith) (share_of_lem s n t (omega arith))

  pub is_plain : T (plain (product s n))
  is_plain = (share_of_lem s n t (omega arith)).0

  -- it is cut to a whole number without loss
  pub cut_above : T (lt (fin true 1 (pos 0)) (product s n))
  cut_above = known.cut.above

  pub cut_below : T (lt (product s n) (fin false 1 (pos 64)))
  cut_below = known.cut.below

  module _ (k : ℕ) (e : k ≡ to_unsigned 64 (product s n)) where
    pub cut_is : k ≡ num (product s n) / den (product s n)
    cut_is = e ∙ known.cut.whole

    pub cut_le : k ≤ n
    cut_le = let w = known.whole_le in let q = cut_is in omega arith

  module _ {y : Float} (e : y ≡ ceil binary64 (product s n)) where
    raised : Cut y (ceil_div (num (product s n)) (den (product s n))) 1 × (ceil_div (num (product s n)) (den (product s n)) ≤ n)
    raised = rw e (ceil_cut (product s n) n (omega arith) (share_of_lem s n t (omega arith)))

    pub ceil_above : T (lt (fin true 1 (pos 0)) y)
    ceil_above = raised.0.above

    pub ceil_below : T (lt y (fin false 1 (pos 64)))
    ceil_below = raised.0.below

    pub ceil_is : {k : ℕ} → k ≡ to_unsigned 64 y → k ≡ ceil_div (num (product s n)) (den (product s n))
    ceil_is q = q ∙ raised.0.whole ∙ div-one (ceil_div (num (product s n)) (den (product s n)))

    pub ceil_le : {k : ℕ} → k ≡ to_unsigned 64 y → k ≤ n
    ceil_le q = let w = raised.1 in let c = ceil_is q in omega arith

-- ---- the sign
odd_neg : (d q k l : ℕ) → odd d true q k l ≡ neg (odd d false q k l)
unfolding odd neg
odd_neg d zero k l = refl
odd_neg d (suc q) k l = refl

units_neg : (f : Format) (q k : ℕ) → units f true q k ≡ neg (units f false q k)
unfolding units neg
units_neg f q k = go (ltb (q * 2 ^ k) (2 ^ (low f + suc (emax f))))
  where
    go : (b : Bool) → cond b (odd (suc (prec f)) true q k (low f)) (inf true) ≡ neg (cond b (odd (suc (prec f)) false q k (low f)) (inf false))
    go true = odd_neg (suc (prec f)) q k (low f)
    go false = unfold neg in refl

round_neg : (f : Format) (a c : ℕ) → round f true a c ≡ neg (round f false a c)
round_neg f a c = round_is f true a c ∙ units_neg f _ _ ∙ ap neg (sym (round_is f false a c))

-- a share of a negative span
pub product_neg : (s : Float) (n : ℕ) → T (is_share s) → suc n ≤ 2 ^ 53 → mul binary64 s (of_int binary64 (negsuc n)) ≡ neg (product s (suc n))
unfolding is_share of_int mul neg
product_neg nan n t h = absurd t
product_neg (inf s) n t h = absurd t
product_neg (fin true m e) n t h = absurd t
product_neg (fin false m e) n t h = ap (mul binary64 (fin false m e)) (round_neg binary64 (suc n) 1) ∙ go (round binary64 false (suc n) 1) (round_whole binary64 false (suc n) h)
  where
    go : (y : Float) → HasValue y false (suc n) 1 → mul binary64 (fin false m e) (neg y) ≡ neg (mul binary64 (fin false m e) y)
    go nan v = absurd v
    go (inf s) v = absurd v
    go (fin true p g) v = absurd (true≢false v.0)
    go (fin false p g) v = round_neg binary64 (m * up e * (p * up g)) (down e * down g)

pub ceiling_plain : (x : Float) → T (plain x) → ceiling x ≡ pos (ceil_div (num x) (den x))
unfolding ceiling
ceiling_plain nan t = absurd t
ceiling_plain (inf s) t = absurd t
ceiling_plain (fin true m e) t = absurd t
ceiling_plain (fin false m e) t = refl

pub ceiling_neg : (x : Float) → T (plain x) → ceiling (neg x) ≡ neg_ℤ (pos (num x / den x))
unfolding ceiling neg
ceiling_neg nan t = absurd t
ceiling_neg (inf s) t = absurd t
ceiling_neg (fin true m e) t = absurd t
ceiling_neg (fin false m e) t = refl

-- ---- differences of two naturals
pub sub_pos : (b a : ℕ) → a ≤ b → pos b -ℤ pos a ≡ pos (b - a)
sub_pos b zero h = ap pos (omega arith)
sub_pos b (suc a) h = rw (le-ltb b (suc a) h)

pub sub_neg : (b a : ℕ) → b < a → pos b -ℤ pos a ≡ negsuc (a - suc b)
sub_neg b zero h = absurd (omega arith)
sub_neg b (suc a) h = rw (lt-ltb b (suc a) h)

-- ---- the start
pub start_ahead : (s : Float) (a b r : ℕ) → T (is_share s) → a ≤ b → b ≤ 4000000000000 → r ≡ ceil_div (num (product s (b - a))) (den (product s (b - a))) → pos (a + r) ≡ pos a +ℤ ceiling_share s (pos b -ℤ pos a)
unfolding ceiling_share
start_ahead s a b r t h k e =
    rw (sub_pos b a h, ceiling_plain (product s (b - a)) (is_plain s (b - a) t (omega arith)), ← e)

pub start_behind : (s : Float) (a b r : ℕ) → T (is_share s) → b < a → a ≤ 4000000000000 → r ≡ num (product s (a - b)) / den (product s (a - b)) → r ≤ a - b → pos (a - r) ≡ pos a +ℤ ceiling_share s (pos b -ℤ pos a)
unfolding ceiling_share
start_behind s a b r t h k e l =
    let n = a - suc b in
    let d : a - b ≡ suc n = omega arith in
    let p = product s (suc n) in
    let f : r ≡ num p / den p = subst (λ (z : ℕ). r ≡ num (product s z) / den (product s z)) d e in
    rw (sub_neg b a h, product_neg s n t (omega arith), ceiling_neg p (is_plain s (suc n) t (omega arith)), ← f) (sym (sub_pos a r (omega arith)))
