-- Laws of digits that are read on from a number, and of a field by its digits. Assumes nothing.
use Prim.Native.Nat.{ℕ, suc, ◌+◌, ◌*◌, ◌-◌, ◌^◌, ◌≤◌, ◌<◌}
use mathlib.Core.Bool.{Bool, true, false, cond, ◌&&◌, not, and-false}
use Rattle.std.specs.Prelude.{Option, None, Some}
use Rattle.std.specs.Bool.{then_some}
use mathlib.Core.List.{List, [], ◌∷◌}
use mathlib.Core.Path.{◌≡◌, refl, sym, ap, ◌∙◌}
use native.Mathlib.Omega.{arith}
use native.Mathlib.Numerals.{add-one}
use lib.Dec.{ltb, eqb}
use lib.ListN.{length, get_or, drop, take, drop_of_length-le}
use lib.Seq.{drop-cons, take_all}
use borrow.Author.Tests.{le-ltb, lt-ltb, ltb-true, eq-eqb, ne_eqb, not-true, not-false}
use borrow.Author.Rules.{rules}
use Rattle.rows.specs.Ranges.{held_none}
use Rattle.text_fields.specs.Spelling.{is_digit, digits_from, limited, digits_of, number_of, positive, negative}
use lib.IntN.{ℤ}
use mathlib.Core.Logic.{◌⊎◌, inl, inr}
use mir.Syntax.{w64}
use mir.Val.{to_z}
use mir.Facts.{to_z_pos}

-- one digit on, at a position
pub at_digit : (s : List ℕ) (i n : ℕ) → i < length s
    → digits_from n (drop i s) ≡ cond (is_digit (get_or s i 0)) (digits_from (n * 10 + (get_or s i 0 - 48)) (drop (i + 1) s)) None
unfolding digits_from
at_digit s i n h = rw (drop-cons s i 0, add-one i)

-- a choice of what is none
none_chosen : (b : Bool) (d : Option ℕ) → limited d ≡ None → limited (cond b d None) ≡ None
none_chosen true d e = e
none_chosen false d e = refl

-- once a number is too large, it stays so
pub too_large_lem : (n : ℕ) (xs : List ℕ) → 2 ^ 63 ≤ n → limited (digits_from n xs) ≡ None
unfolding digits_from
too_large_lem n [] h = rw (le-ltb n (2 ^ 63))
too_large_lem n (x ∷ xs) h = none_chosen (is_digit x) (digits_from (n * 10 + (x - 48)) xs) (too_large_lem (n * 10 + (x - 48)) xs (omega arith))

-- a digit on from past 922,337,203,685,477,580, a tenth of 2^63, makes it so
pub soon_too_large : (s : List ℕ) (i n : ℕ) → i < length s → 922337203685477580 < n → limited (digits_from n (drop i s)) ≡ None
soon_too_large s i n h k =
    rw (at_digit s i n)
    (none_chosen (is_digit (get_or s i 0)) _ (too_large_lem (n * 10 + (get_or s i 0 - 48)) (drop (i + 1) s) (omega arith)))

chosen : (b : Bool) (n : ℕ) → then_some b n ≡ cond b (Some n) None
chosen true n = refl
chosen false n = refl

-- where the digits from i on are read on from n: what comes of a byte there; r is what comes of all the digits
module _ {r : Option ℕ} (s : List ℕ) (i n : ℕ) (now : limited (digits_from n (drop i s)) ≡ r) where
  module _ (h : i < length s) where
    here : limited (cond (is_digit (get_or s i 0)) (digits_from (n * 10 + (get_or s i 0 - 48)) (drop (i + 1) s)) None) ≡ r
    here = rw (at_digit s i n h) at now

    pub no_digit : {t : Bool} → t ≡ is_digit (get_or s i 0) → not t ≡ true → None ≡ r
    no_digit {t} e q = rw (sym e ∙ not-true t q) at here

    pub too_large : 2 ^ 63 ≤ n * 10 + (get_or s i 0 - 48) → None ≡ r
    too_large l = sym (none_chosen (is_digit (get_or s i 0)) _ (too_large_lem (n * 10 + (get_or s i 0 - 48)) (drop (i + 1) s) l)) ∙ here

    pub one_digit : {t : Bool} {m : ℕ} → t ≡ is_digit (get_or s i 0) → not t ≡ false → m ≡ n * 10 + (get_or s i 0 - 48) → limited (digits_from m (drop (i + 1) s)) ≡ r
    one_digit {t} e q k = rw k (rw (sym e ∙ not-false t q) at here)

  module _ (h : length s ≤ i) where
    -- what is below 2^63 is the number
    pub at_end : {d : Option ℕ} → d ≡ then_some (ltb n (2 ^ 63)) n → d ≡ r
    unfolding digits_from
    at_end e = let w : limited (Some n) ≡ r = rw (drop_of_length-le s {i = i} h) at now in e ∙ chosen (ltb n (2 ^ 63)) n ∙ w

pub ruleset digits = (rules, no_digit, too_large, one_digit, at_end)

limited_below : (d : Option ℕ) (n : ℕ) → limited d ≡ Some n → n < 2 ^ 63
limited_below (Some m) n e = go (ltb m (2 ^ 63)) refl e
  where
    go : (b : Bool) → ltb m (2 ^ 63) ≡ b → cond b (Some m) None ≡ Some n → n < 2 ^ 63
    go true t q = let z : m ≡ n = cc in omega (arith, ltb-true m (2 ^ 63) t)
    go false t q = let z : ◌≡◌ {A = ℕ} 0 1 = cc in omega arith
limited_below None n e = let z : ◌≡◌ {A = ℕ} 0 1 = cc in omega arith

-- a number that is spelled right is below 2^63
of_below : (s : List ℕ) (n : ℕ) → digits_of s ≡ Some n → n < 2 ^ 63
unfolding digits_of
of_below [] n e = let z : ◌≡◌ {A = ℕ} 0 1 = cc in omega arith
of_below (x ∷ xs) n e = go (eqb x 48 && ltb 0 (length xs)) e
  where
    go : (b : Bool) → cond b None (limited (digits_from 0 (x ∷ xs))) ≡ Some n → n < 2 ^ 63
    go true q = let z : ◌≡◌ {A = ℕ} 0 1 = cc in omega arith
    go false q = limited_below (digits_from 0 (x ∷ xs)) n q

pub digits_below : {r : Option ℕ} (s : List ℕ) (n : ℕ) → r ≡ digits_of s → r ≡ Some n → n < 2 ^ 63
digits_below s n e q = of_below s n (sym e ∙ q)

pub digits_empty : (s : List ℕ) → length s ≡ 0 → digits_of s ≡ None
unfolding digits_of
digits_empty [] h = refl
digits_empty (x ∷ xs) h = absurd (omega arith)

pub digits_zero : (s : List ℕ) → get_or s 0 0 ≡ 48 → 1 < length s → digits_of s ≡ None
unfolding digits_of
digits_zero [] e h = refl
digits_zero (x ∷ xs) e h = rw (eq-eqb x 48 e, lt-ltb 0 (length xs) (omega arith))

pub digits_plain : (s : List ℕ) → (length s ≡ 0 → ⊥) → (get_or s 0 0 ≡ 48 → ⊥) ⊎ (length s ≤ 1) → digits_of s ≡ limited (digits_from 0 s)
unfolding digits_of
digits_plain [] n h = absurd (n refl)
digits_plain (x ∷ xs) n (inl h) = rw (ne_eqb x 48 h)
digits_plain (x ∷ xs) n (inr h) = rw (le-ltb 0 (length xs) (omega arith), and-false (eqb x 48))

pub number_empty : (s : List ℕ) → length s ≡ 0 → number_of s ≡ Some held_none
unfolding number_of
number_empty [] h = refl
number_empty (x ∷ xs) h = absurd (omega arith)

minus : (s : List ℕ) → (length s ≡ 0 → ⊥) → get_or s 0 0 ≡ 45 → number_of s ≡ negative (digits_of (take (length s - 1) (drop 1 s)))
unfolding number_of
minus [] n e = absurd (n refl)
minus (x ∷ xs) n e = rw (eq-eqb x 45 e, take_all (suc (length xs) - 1) xs (omega arith))

no_minus : (s : List ℕ) → (length s ≡ 0 → ⊥) → (get_or s 0 0 ≡ 45 → ⊥) → number_of s ≡ positive (digits_of s)
unfolding number_of
no_minus [] n e = absurd (n refl)
no_minus (x ∷ xs) n e = rw (ne_eqb x 45 e)

-- a field with a minus, and one without, by the digits that were read
module _ (s : List ℕ) (n : length s ≡ 0 → ⊥) {r : Option ℕ} where
  pub minus_digits : {m : ℕ} {v : Option ℤ} → get_or s 0 0 ≡ 45 → r ≡ digits_of (take (length s - 1) (drop 1 s)) → r ≡ Some m → v ≡ negative (Some m) → v ≡ number_of s
  minus_digits e q p g = g ∙ ap negative (sym p ∙ q) ∙ sym (minus s n e)

  pub minus_none : get_or s 0 0 ≡ 45 → r ≡ digits_of (take (length s - 1) (drop 1 s)) → r ≡ None → None ≡ number_of s
  minus_none e q p = ap negative (sym p ∙ q) ∙ sym (minus s n e)

  pub plain_digits : {m : ℕ} → (get_or s 0 0 ≡ 45 → ⊥) → r ≡ digits_of s → r ≡ Some m → Some (to_z w64 m) ≡ number_of s
  plain_digits {m = m} e q p = ap Some (to_z_pos w64 (digits_below s m q p)) ∙ ap positive (sym p ∙ q) ∙ sym (no_minus s n e)

  pub plain_none : (get_or s 0 0 ≡ 45 → ⊥) → r ≡ digits_of s → r ≡ None → None ≡ number_of s
  plain_none e q p = ap positive (sym p ∙ q) ∙ sym (no_minus s n e)
