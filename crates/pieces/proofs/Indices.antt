-- Part indices as numbers: the order of the numbers is that of the indices, none first. Assumes nothing.
use Prim.Native.Nat.{ℕ, suc, ◌+◌, ◌-◌, ◌^◌, ◌<◌, ◌≤◌}
use mathlib.Core.Path.{◌≡◌, refl, sym, ap₂, ◌∙◌}
use mathlib.Core.Bool.{Bool, beq, true, false, cond, not, ◌&&◌, true≢false, false≢true}
use mathlib.Core.List.{List}
use Rattle.std.specs.Prelude.{Option, None, Some}
use native.Mathlib.Omega.{arith}
use native.Mathlib.Decide.{dec_lt}
use lib.Dec.{eqb, ltb, leb, T}
use lib.IntN.{ℤ, pos, negsuc, sub_ℕ, ◌+ℤ◌, nat_abs}
use lib.Signed.{lt_z, le_z, non_neg, mag}
use mir.Syntax.{w64}
use mir.Val.{Fits, SFits, to_z, of_z, hbits}
use mir.Facts.{to_z-of_z}
use borrow.Author.Rules.{sfits_of}
use borrow.Author.Tests.{ltb-true, ltb-false, leb-true, lt-ltb, le-ltb}
use Rattle.loops.specs.Numbers.{to_nat}
use Rattle.loops.proofs.BoolLaws.{and_left, and_right, or_left}
use Rattle.loops.proofs.NumberLaws.{eqb_swap, neither_below}
use Rattle.rows.specs.Cells.{cell}
use Rattle.rows.specs.declared.Class.TheVariants.{Number, OptionalNumber}
use Rattle.rows.specs.Ranges.{between, is_none, in_range, in_class}
use Rattle.rows.proofs.Signed.{number_low, number_high}
use Rattle.model.specs.Sheet.{number, nothing}
use Rattle.model.specs.Schedule.{as_part}
use Rattle.definition.specs.Pieces.{index_of, before_index, same_index}
use Rattle.pieces.specs.inner.Bookings.{index_key, key_at}

sub_up : (a b : ℕ) → b ≤ a → sub_ℕ a b ≡ pos (a - b)
sub_up a b h = rw (le-ltb a b h)

sub_down : (a b : ℕ) → a < b → to_nat (sub_ℕ a b) ≡ 0
sub_down a b h = rw (lt-ltb a b h)

-- ---- what the code's tests say

low_is : (z : ℤ) → lt_z z (negsuc 999999) ≡ true → 0 ≡ index_key z
unfolding index_key
low_is (pos n) e = absurd (false≢true e)
low_is (negsuc n) e = go (ltb-true 999999 n e) (dec_lt 1000001 (suc n))
  where
    go : 999999 < n → Dec (1000001 < suc n) → 0 ≡ to_nat (sub_ℕ 1000001 (suc n))
    go l (yes h) = sym (sub_down 1000001 (suc n) h)
    go l (no h) = rw (sub_up 1000001 (suc n) (omega arith)) (omega arith)

record Middle (z : ℤ) : Type 0 where
  pub n : ℕ
  pub sum : z +ℤ pos 1000001 ≡ pos n
  pub small : n < 9223372036854775808
  pub key : n ≡ index_key z

middle_is : (z : ℤ) → lt_z z (negsuc 999999) ≡ false → lt_z z (pos 0) ≡ true → Middle z
unfolding index_key
middle_is (pos n) e d = absurd (let l = ltb-true n 0 d in omega arith)
middle_is (negsuc n) e d =
    let l : n ≤ 999999 = ltb-false 999999 n e in
    record {
      n = 1000001 - suc n;
      sum = sub_up 1000001 (suc n) (omega arith);
      small = omega arith;
      key = rw (sub_up 1000001 (suc n) (omega arith));
    }

upper_is : (z : ℤ) → lt_z z (pos 0) ≡ false → T (non_neg z) × (nat_abs z + 1000001 ≡ index_key z)
unfolding index_key
upper_is (pos n) d = (tt, refl)
upper_is (negsuc n) d = absurd (true≢false d)

abs_small : (z : ℤ) → SFits w64 z → T (non_neg z) → nat_abs z < 9223372036854775808
abs_small (pos n) f h = f.sfits
abs_small (negsuc n) f h = absurd h

pos_fits : (n : ℕ) → n < 9223372036854775808 → SFits w64 (pos n)
pos_fits n h = record { sfits = omega arith }

module _ (z : ℤ) (f : SFits w64 z) where
  pub low : lt_z (to_z w64 (of_z w64 z)) (negsuc 999999) ≡ true → 0 ≡ index_key z
  low e = low_is z (rw (to_z-of_z f) at e)

  -- below 0 the sum is the number
  module _ (e : lt_z (to_z w64 (of_z w64 z)) (negsuc 999999) ≡ false) (d : lt_z (to_z w64 (of_z w64 z)) (pos 0) ≡ true) where
    middle : Middle z
    middle = middle_is z (rw (to_z-of_z f) at e) (rw (to_z-of_z f) at d)

    sum_is : to_z w64 (of_z w64 (to_z w64 (of_z w64 z) +ℤ pos 1000001)) ≡ pos middle.n
    sum_is = rw (to_z-of_z f, middle.sum) (to_z-of_z (pos_fits _ middle.small))

    pub sum_fits : SFits w64 (to_z w64 (of_z w64 z) +ℤ pos 1000001)
    sum_fits = rw (to_z-of_z f, middle.sum) (pos_fits _ middle.small)

    pub sum_sign : T (non_neg (to_z w64 (of_z w64 (to_z w64 (of_z w64 z) +ℤ pos 1000001))))
    sum_sign = rw sum_is tt

    pub sum_held : Fits w64 (nat_abs (to_z w64 (of_z w64 (to_z w64 (of_z w64 z) +ℤ pos 1000001))))
    sum_held = rw sum_is (record { fits = omega (arith, middle.small) })

    pub sum_key : nat_abs (to_z w64 (of_z w64 (to_z w64 (of_z w64 z) +ℤ pos 1000001))) ≡ index_key z
    sum_key = rw sum_is middle.key

  -- from 0 on it is counted on
  module _ (d : lt_z (to_z w64 (of_z w64 z)) (pos 0) ≡ false) where
    upper : T (non_neg z) × (nat_abs z + 1000001 ≡ index_key z)
    upper = upper_is z (rw (to_z-of_z f) at d)

    pub up_fits : Fits w64 (nat_abs (to_z w64 (of_z w64 z)) + 1000001)
    up_fits = rw (to_z-of_z f) (record { fits = omega (arith, abs_small z f upper.0) })

    pub up_key : nat_abs (to_z w64 (of_z w64 z)) + 1000001 ≡ index_key z
    up_key = rw (to_z-of_z f) upper.1

pub index_read : {r : ℕ} {z y : ℤ} → r ≡ index_key (to_z w64 (of_z w64 z)) → mag z < 2 ^ hbits w64 → z ≡ y → r ≡ index_key y
index_read h m e = rw (to_z-of_z (sfits_of m), e) at h

pub key_read : (rows : List ℤ) (k : ℕ) {x : ℤ} {r : ℕ} → x ≡ cell rows k 7 → SFits w64 x → r ≡ index_key (to_z w64 (of_z w64 x)) → r ≡ key_at rows k
unfolding key_at
key_read rows k q f e = rw (to_z-of_z f, q) at e

-- ---- the order of the numbers

-- the index that a column of class OptionalNumber holds
abbrev pub index_in : ℤ → Option ℤ
index_in x = cond (is_none x) None (Some x)

agree : (a b c d : ℕ) → (a < b → c < d) → (b ≤ a → d ≤ c) → ltb a b ≡ ltb c d
agree a b c d f g = go (dec_lt a b)
  where
    go : Dec (a < b) → ltb a b ≡ ltb c d
    go (yes l) = rw (lt-ltb a b l, lt-ltb c d (f l))
    go (no l) = rw (le-ltb a b (omega arith), le-ltb c d (g (omega arith)))

pub key_neg : (a : ℕ) → a ≤ 999999 → index_key (negsuc a) ≡ 1000000 - a
unfolding index_key
key_neg a h = rw (sub_up 1000001 (suc a) (omega arith)) (omega arith)

pub key_pos : (a : ℕ) → index_key (pos a) ≡ a + 1000001
unfolding index_key
key_pos a = refl

pub key_most : (x : ℤ) → in_class Number x ≡ true → index_key x ≤ 2000001
key_most (pos n) e = rw (key_pos n) (omega (arith, number_high n e))
key_most (negsuc n) e = rw (key_neg n (number_low n e)) (omega arith)

-- an index in its range
abbrev Ranged : ℤ → Type 0
Ranged x = le_z (negsuc 999999) x ≡ true

ranged_before : (x y : ℤ) → Ranged x → Ranged y → lt_z x y ≡ ltb (index_key x) (index_key y)
ranged_before (pos a) (pos b) f g = rw (key_pos a, key_pos b) (agree a b (a + 1000001) (b + 1000001) (λ l. omega arith) (λ l. omega arith))
ranged_before (pos a) (negsuc b) f g =
    rw (key_pos a, key_neg b (leb-true b 999999 g)) (sym (le-ltb (a + 1000001) (1000000 - b) (omega arith)))
ranged_before (negsuc a) (pos b) f g =
    rw (key_neg a (leb-true a 999999 f), key_pos b) (sym (lt-ltb (1000000 - a) (b + 1000001) (omega arith)))
ranged_before (negsuc a) (negsuc b) f g =
    let l : a ≤ 999999 = leb-true a 999999 f in
    let m : b ≤ 999999 = leb-true b 999999 g in
    rw (key_neg a l, key_neg b m) (agree b a (1000000 - a) (1000000 - b) (λ q. omega arith) (λ q. omega arith))

ranged_some : (x : ℤ) → Ranged x → 0 < index_key x
ranged_some (pos a) f = rw (key_pos a) (omega arith)
ranged_some (negsuc a) f = let l : a ≤ 999999 = leb-true a 999999 f in rw (key_neg a l) (omega arith)

none_key : (x : ℤ) → is_none x ≡ true → index_key x ≡ 0
unfolding is_none between
none_key (pos a) e = absurd (false≢true (and_right true false e))
none_key (negsuc a) e =
    let l : 9223372036854775807 ≤ a = leb-true 9223372036854775807 a (and_right (leb a 9223372036854775807) (leb 9223372036854775807 a) e) in
    sym (low_is (negsuc a) (lt-ltb 999999 a (omega arith)))

ranged : (x : ℤ) → in_class OptionalNumber x ≡ true → is_none x ≡ false → Ranged x
unfolding in_class in_range between
ranged x e f = and_left (le_z (negsuc 999999) x) (le_z x (pos 1000000)) (or_left _ (is_none x) e f)

pub before_key : (x y : ℤ) → in_class OptionalNumber x ≡ true → in_class OptionalNumber y ≡ true
    → before_index (index_in x) (index_in y) ≡ ltb (index_key x) (index_key y)
before_key x y f g = go (is_none x) (is_none y) refl refl
  where
    go : (a b : Bool) → is_none x ≡ a → is_none y ≡ b → before_index (cond a None (Some x)) (cond b None (Some y)) ≡ ltb (index_key x) (index_key y)
    go true true p q = rw (none_key x p, none_key y q)
    go true false p q = rw (none_key x p) (sym (lt-ltb 0 (index_key y) (ranged_some y (ranged y g q))))
    go false true p q = rw (none_key y q) (sym (le-ltb (index_key x) 0 (omega arith)))
    go false false p q = ranged_before x y (ranged x f p) (ranged y g q)

pub same_key : (x y : ℤ) → in_class OptionalNumber x ≡ true → in_class OptionalNumber y ≡ true → same_index (index_in x) (index_in y) ≡ eqb (index_key x) (index_key y)
same_key x y f g = ap₂ (λ a b. not a && not b) (before_key x y f g) (before_key y x g f) ∙ neither_below (index_key y) (index_key x) ∙ eqb_swap (index_key y) (index_key x)

-- ---- the part of a booking

-- both columns or neither
pub index_in_lem : (x w : ℤ) → beq (is_none x) (is_none w) ≡ true → index_of (as_part {T = ℤ} (cond (is_none x) nothing (number x)) (cond (is_none w) nothing (number w))) ≡ index_in x
index_in_lem x w e = go (is_none x) (is_none w) e
  where
    go : (a b : Bool) → beq a b ≡ true → index_of (as_part {T = ℤ} (cond a nothing (number x)) (cond b nothing (number w))) ≡ cond a None (Some x)
    go true b e = refl
    go false true e = absurd (true≢false (sym e))
    go false false e = refl
