-- (2 * ms * work + d) / (2 * d) by long division with two digits of work. Assumes nothing.
use mathlib.Core.Path.{◌≡◌, sym, ap, ◌∙◌}
use Prim.Native.Nat.{ℕ, ◌+◌, ◌*◌, ◌/◌, ◌%◌, ◌≤◌, ◌<◌}
use native.Mathlib.Nat.{mul_comm, mul_assoc, mul_left_comm, mul-add, mul-le-mul, add-div_right, div-div-eq-div-mul, div-lt_iff_lt-mul, div-le_self, mod-lt, div-add-mod', add-mul-div_right, mul_right_comm}
use native.Mathlib.Omega.{arith}
use borrow.Author.Tests.{eq-eqb, ne_eqb, le-leb}
use Rattle.std.specs.Prelude.{Some, Result, Ok}
use Rattle.rounding.specs.declared.TooLarge.{TooLarge}
use Rattle.rounding.proofs.Laws.{limit_within, limit_beyond}
use mir.Syntax.{w64}
use mir.Val.{Fits}
use Rattle.rounding.specs.inner.Limited.{limited, too_large}
use Rattle.part_share.specs.Share.{share_of}
use Rattle.part_share.specs.inner.Within.{share_within}

of_none : (ms work d : ℕ) → d ≡ 0 → share_of ms work d ≡ ms
unfolding share_of
of_none ms work d e = rw (eq-eqb d 0 e)

-- (2r + d) / (2d) is the bit 2r / d, for an r below d
last_bit : (r d : ℕ) → r < d → ((2 * r + d) / (2 * d) ≡ r * 2 / d) × (r * 2 / d < 2)
last_bit r d h =
    let D : 0 < d = omega arith in
    let small : r * 2 / d < 2 = (div-lt_iff_lt-mul D).1 (omega arith) in
    let halved : (2 * r + d) / (2 * d) ≡ (r * 2 / d + 1) / 2 =
    ap (λ (z : ℕ). (z + d) / (2 * d)) (mul_comm 2 r)
    ∙ ap (λ (z : ℕ). (r * 2 + d) / z) (mul_comm 2 d)
    ∙ sym (div-div-eq-div-mul (r * 2 + d) d 2)
    ∙ ap (λ (z : ℕ). z / 2) (add-div_right (r * 2) D) in
    (omega arith, small)

-- whole multiples of d come out of the quotient
take_out : (q r d : ℕ) → 0 < d → (2 * (q * d + r) + d) / (2 * d) ≡ (2 * r + d) / (2 * d) + q
take_out q r d D =
    let e : 2 * (q * d + r) + d ≡ 2 * r + d + q * (2 * d) = let s : q * (2 * d) ≡ 2 * (q * d) = mul_left_comm q 2 d in omega arith in
    ap (λ (z : ℕ). z / (2 * d)) e ∙ add-mul-div_right (2 * r + d) q (omega arith)

abbrev pub high_of : ℕ → ℕ → ℕ
high_of ms work = ms * (work / 2097152)

abbrev pub low_of : ℕ → ℕ → ℕ → ℕ
low_of ms work d = high_of ms work % d * 2097152 + ms * (work % 2097152)

record Parts (ms work d : ℕ) : Type 0 where
  pub high : high_of ms work ≤ 4000000000000 * 1907348
  pub low : ms * (work % 2097152) ≤ 4000000000000 * 2097151
  pub high_rest : high_of ms work % d < d
  pub quotient : low_of ms work d / d ≤ low_of ms work d
  pub rest : low_of ms work d % d < d
  pub bit : low_of ms work d % d * 2 / d < 2
  pub sum : share_of ms work d ≡ high_of ms work / d * 2097152 + low_of ms work d / d + low_of ms work d % d * 2 / d

module _ (ms work d : ℕ) (D : 0 < d) where
  product : ms * work ≡ high_of ms work / d * 2097152 * d + low_of ms work d
  product =
      let w = div-add-mod' work 2097152 in
      let a : ms * work ≡ ms * (work / 2097152) * 2097152 + ms * (work % 2097152) =
      ap (λ (z : ℕ). ms * z) (sym w) ∙ mul-add ms (work / 2097152 * 2097152) (work % 2097152) ∙ ap (λ (z : ℕ). z + ms * (work % 2097152)) (sym (mul_assoc ms (work / 2097152) 2097152)) in
      let b : high_of ms work / d * d + high_of ms work % d ≡ high_of ms work = div-add-mod' (high_of ms work) d in
      let s : high_of ms work / d * 2097152 * d ≡ high_of ms work / d * d * 2097152 = mul_right_comm (high_of ms work / d) 2097152 d in
      omega arith

  digits : share_of ms work d ≡ high_of ms work / d * 2097152 + low_of ms work d / d + low_of ms work d % d * 2 / d
  unfolding share_of
  digits =
      let low = low_of ms work d in
      let q = high_of ms work / d * 2097152 in
      let e : 2 * ms * work + d ≡ 2 * (q * d + low) + d = ap (λ (z : ℕ). z + d) (mul_assoc 2 ms work ∙ ap (λ (z : ℕ). 2 * z) product) in
      let f : (2 * ms * work + d) / (2 * d) ≡ (2 * low + d) / (2 * d) + q = ap (λ (z : ℕ). z / (2 * d)) e ∙ take_out q low d D in
      let g : (2 * low + d) / (2 * d) ≡ (2 * (low % d) + d) / (2 * d) + low / d = ap (λ (z : ℕ). (2 * z + d) / (2 * d)) (sym (div-add-mod' low d)) ∙ take_out (low / d) (low % d) d D in
      let h = (last_bit (low % d) d (mod-lt low D)).0 in
      rw (ne_eqb d 0 (omega arith)) (omega arith)

parts : (ms work d : ℕ) → ms ≤ 4000000000000 → work ≤ 4000000000000 → 0 < d → Parts ms work d
parts ms work d M W D =
    let low = low_of ms work d in
    record {
      high = mul-le-mul {m₂ = 1907348} M (omega arith);
      low = mul-le-mul {m₂ = 2097151} M (omega arith);
      high_rest = mod-lt (high_of ms work) D;
      quotient = div-le_self low d;
      rest = mod-lt low D;
      bit = (last_bit (low % d) d (mod-lt low D)).1;
      sum = digits ms work d D;
    }

-- ---- what the code works out: no step of it passes 64 bits

pub share_none : (ms work d : ℕ) → d ≡ 0 → ms ≤ 4000000000000 → Ok ms ≡ limited (Some (share_of ms work d))
share_none ms work d e M = limit_within ms (omega arith) ∙ ap (λ (n : ℕ). limited (Some n)) (sym (of_none ms work d e))

module _ (ms work : ℕ) (M : ms ≤ 4000000000000) (W : work ≤ 4000000000000) where
  pub high_fits : Fits w64 (high_of ms work)
  high_fits = let k = parts ms work 1 M W (omega arith) in record { fits = omega arith }

  pub low_fits : Fits w64 (ms * (work % 2097152))
  low_fits = let k = parts ms work 1 M W (omega arith) in record { fits = omega arith }

module _ (ms work d : ℕ) (M : ms ≤ 4000000000000) (W : work ≤ 4000000000000) (N : d ≡ 0 → ⊥) where
  known : Parts ms work d
  known = parts ms work d M W (omega arith)

  pub share_beyond : 4294967296 ≤ high_of ms work / d → too_large ≡ limited (Some (share_of ms work d))
  share_beyond l = let k = known in limit_beyond (share_of ms work d) (omega arith)

  pub share_is : {r : Result ℕ TooLarge} → r ≡ limited (Some (high_of ms work / d * 2097152 + low_of ms work d / d + low_of ms work d % d * 2 / d)) → r ≡ limited (Some (share_of ms work d))
  share_is e = e ∙ ap (λ (n : ℕ). limited (Some n)) (sym known.sum)

  module _ (D : d ≤ 4000000000000) where
    pub rest_fits : Fits w64 (high_of ms work % d * 2097152)
    rest_fits = let k = known in record { fits = omega arith }

    pub sum_fits : Fits w64 (low_of ms work d)
    sum_fits = let k = known in record { fits = omega arith }

    rest_times : (k : ℕ) → k ≤ 2 → low_of ms work d % d * k ≤ 4000000000000 * 2
    rest_times k l = let m = known.rest in mul-le-mul {n₂ = 4000000000000} {m₂ = 2} (omega arith) l

    pub twice_fits : (k : ℕ) → k ≤ 2 → Fits w64 (low_of ms work d % d * k)
    twice_fits k l = record { fits = omega (arith, rest_times k l) }

    module _ (l : high_of ms work / d < 4294967296) where
      pub digits_fit : Fits w64 (high_of ms work / d * 2097152 + low_of ms work d / d)
      digits_fit = let k = known in record { fits = omega arith }

      pub share_fits : (k : ℕ) → k ≤ 2 → Fits w64 (high_of ms work / d * 2097152 + low_of ms work d / d + low_of ms work d % d * k / d)
      share_fits k m = let q = known in record { fits = omega (arith, rest_times k m, div-le_self (low_of ms work d % d * k) d) }

-- ---- any times

pub shared : (ms work whole : ℕ) → ms ≤ 4000000000000 → work ≤ 4000000000000 → whole ≤ 4000000000000 → Some (share_of ms work whole) ≡ share_within ms work whole
unfolding share_within
shared ms work whole a b c = rw (le-leb ms 4000000000000 a, le-leb work 4000000000000 b, le-leb whole 4000000000000 c)
