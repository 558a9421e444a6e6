-- Laws of seconds that are cut at 4,000,000,001. Assumes nothing.
use Prim.Native.Nat.{ℕ, ◌+◌, ◌*◌, ◌-◌, ◌≤◌, ◌<◌, min}
use mathlib.Core.Bool.{Bool, true, false, cond, not}
use mathlib.Core.List.{List, [], ◌∷◌}
use mathlib.Core.Logic.{◌⊎◌, inl, inr}
use Rattle.std.specs.Prelude.{Option, None, Some}
use mathlib.Core.Path.{◌≡◌, refl, sym, ap, ◌∙◌}
use native.Mathlib.Omega.{arith}
use native.Mathlib.Nat.{le-mul_of_pos_right}
use native.Mathlib.Numerals.{add-one}
use lib.Dec.{ltb}
use lib.ListN.{length, get_or, drop, take, drop_of_length-le}
use Rattle.loops.proofs.ListLaws.{rest_is}
use lib.Seq.{drop-cons}
use borrow.Author.Rules.{rules}
use borrow.Author.Tests.{lt-ltb, le-ltb, ltb-true, ltb-false, not-true, not-false}
use Rattle.text_fields.specs.Spelling.{is_digit}
use Rattle.letters.specs.Letters.{capital}
use Rattle.freebusy_periods.specs.Duration.{counts, counted_from, counted}
use Rattle.freebusy_periods.specs.inner.Capped.{at_most, capped_count, capped, added}

pub cap_under : (n : ℕ) → n ≤ 4000000001 → at_most n ≡ n
unfolding at_most
cap_under n h = rw (le-ltb 4000000001 n)

pub cap_over : (n : ℕ) → 4000000001 ≤ n → at_most n ≡ 4000000001
unfolding at_most
cap_over n h = go (ltb 4000000001 n) refl
  where
    go : (b : Bool) → ltb 4000000001 n ≡ b → cond b 4000000001 n ≡ 4000000001
    go true e = refl
    go false e = let k = ltb-false 4000000001 n e in omega arith

pub cut_is : (n : ℕ) → min n 4000000001 ≡ at_most n
cut_is n = go (ltb 4000000001 n) refl
  where
    go : (b : Bool) → ltb 4000000001 n ≡ b → min n 4000000001 ≡ at_most n
    go true e = let k = ltb-true 4000000001 n e in sym (cap_over n (omega arith) ∙ omega arith)
    go false e = let k = ltb-false 4000000001 n e in sym (cap_under n k ∙ omega arith)

-- two numbers that are cut to the same
unfoldable pub Alike : ℕ → ℕ → Type 0
Alike m n = (m ≡ n) ⊎ ((4000000001 ≤ m) × (4000000001 ≤ n))

pub alike_cut : (n : ℕ) → Alike (at_most n) n
unfolding Alike
alike_cut n = go (ltb 4000000001 n) refl
  where
    go : (b : Bool) → ltb 4000000001 n ≡ b → (at_most n ≡ n) ⊎ ((4000000001 ≤ at_most n) × (4000000001 ≤ n))
    go true e = let k = ltb-true 4000000001 n e in inr (rw (cap_over n (omega arith)) (omega arith), omega arith)
    go false e = inl (cap_under n (ltb-false 4000000001 n e))

pub alike_same : (m n : ℕ) → Alike m n → at_most m ≡ at_most n
unfolding Alike
alike_same m n (inl e) = ap at_most e
alike_same m n (inr h) = cap_over m h.0 ∙ sym (cap_over n h.1)

alike_digit : (m n d : ℕ) → Alike m n → Alike (m * 10 + d) (n * 10 + d)
unfolding Alike
alike_digit m n d (inl e) = inl (omega arith)
alike_digit m n d (inr h) = inr (omega arith, omega arith)

pub alike_times : (m n k : ℕ) → 0 < k → Alike m n → Alike (m * k) (n * k)
unfolding Alike
alike_times m n k h (inl e) = inl (ap (λ (x : ℕ). x * k) e)
alike_times m n k h (inr l) = let a = le-mul_of_pos_right m h in let b = le-mul_of_pos_right n h in inr (omega arith, omega arith)

pub alike_plus : (m n p q : ℕ) → Alike m n → Alike p q → Alike (m + p) (n + q)
unfolding Alike
alike_plus m n p q (inl e) (inl f) = inl (omega arith)
alike_plus m n p q (inl e) (inr f) = inr (omega arith, omega arith)
alike_plus m n p q (inr e) (inl f) = inr (omega arith, omega arith)
alike_plus m n p q (inr e) (inr f) = inr (omega arith, omega arith)

pub alike_itself : (n : ℕ) → Alike n n
unfolding Alike
alike_itself n = inl refl

-- seconds are added after they are cut, or before
pub added_alike : (m n : ℕ) (o : Option ℕ) → Alike m n → capped (added m (capped o)) ≡ capped (added n o)
unfolding capped added
added_alike m n None h = refl
added_alike m n (Some k) h = ap (λ (j : ℕ). Some j) (alike_same (m + at_most k) (n + k) (alike_plus m n (at_most k) k h (alike_cut k)))

pub cut_sum : (m n p q : ℕ) → p ≡ at_most m → q ≡ at_most n → at_most (p + q) ≡ at_most (m + n)
cut_sum m n p q e f = alike_same (p + q) (m + n) (alike_plus p m q n (rw e (alike_cut m)) (rw f (alike_cut n)))

-- ---- reading digits at a place: a number that is read on from either is cut to the same

counted_alike : (any : Bool) (m n : ℕ) (xs : List ℕ) → Alike m n → capped_count (counted_from any m xs) ≡ capped_count (counted_from any n xs)
unfolding counted_from
counted_alike any m n [] h = refl
counted_alike any m n (x ∷ xs) h = go (is_digit x) any (counted_alike true _ _ xs (alike_digit m n (x - 48) h))
  where
    go : (b any : Bool) → capped_count (counted_from true (m * 10 + (x - 48)) xs) ≡ capped_count (counted_from true (n * 10 + (x - 48)) xs)
        → capped_count (cond b (counted_from true (m * 10 + (x - 48)) xs) (cond any (Some (counts m (capital x) xs)) None))
        ≡ capped_count (cond b (counted_from true (n * 10 + (x - 48)) xs) (cond any (Some (counts n (capital x) xs)) None))
    go true any e = e
    go false true e = ap (λ (k : ℕ). Some (counts k (capital x) xs)) (alike_same m n h)
    go false false e = refl

-- the first i bytes are digits, of the number n, cut; there was one where 0 < i
pub record Reading (s : List ℕ) (n i : ℕ) : Type 0 where
  pub same : capped_count (counted_from (ltb 0 i) n (drop i s)) ≡ capped_count (counted s)
  pub small : n ≤ 4000000001

pub reading_start : {s : List ℕ} → Reading s 0 0
reading_start = record { same = refl; small = omega arith }

module _ {s : List ℕ} {n i : ℕ} (c : Reading s n i) where
  module _ {r : Bool} (k : i < length s) (e : r ≡ is_digit (get_or s i 0)) where
    pub reading_turn : {d m : ℕ} → not r ≡ false → d ≡ get_or s i 0 - 48 → m ≡ at_most (n * 10 + d) → m ≤ 4000000001 → Reading s m (i + 1)
    unfolding counted_from
    reading_turn {d} {m} t p q l = record {
      same =
          let h : is_digit (get_or s i 0) ≡ true = sym e ∙ not-false r t in
          ap (λ (b : Bool). capped_count (counted_from b m (drop (i + 1) s))) (lt-ltb 0 (i + 1) (omega arith))
          ∙ counted_alike true m (n * 10 + (get_or s i 0 - 48)) (drop (i + 1) s) (rw (q, p) (alike_cut (n * 10 + (get_or s i 0 - 48))))
          ∙ sym (rw (drop-cons s i 0 k, h, add-one i)) ∙ c.same;
      small = l;
    }

    module _ (t : not r ≡ true) where
      unit_here : capped_count (cond (ltb 0 i) (Some (counts n (capital (get_or s i 0)) (drop (i + 1) s))) None) ≡ capped_count (counted s)
      unfolding counted_from
      unit_here = let h : is_digit (get_or s i 0) ≡ false = sym e ∙ not-true r t in sym (rw (drop-cons s i 0 k, h, add-one i)) ∙ c.same

      pub reading_none : i ≡ 0 → None ≡ capped_count (counted s)
      reading_none z = rw z at unit_here

      pub reading_unit : {u : ℕ} → (i ≡ 0 → ⊥) → u ≡ capital (get_or s i 0)
          → Some (counts n u (take (length s - (i + 1)) (drop (i + 1) s))) ≡ capped_count (counted s)
      reading_unit {u} z p = rw (rest_is (i + 1) s, p, ← cap_under n c.small) (rw (lt-ltb 0 i (omega arith)) at unit_here)

  pub reading_end : length s ≤ i → None ≡ capped_count (counted s)
  unfolding counted_from
  reading_end h = sym (rw (drop_of_length-le s {i = i} h)) ∙ c.same

pub ruleset readings = (rules, reading_start, reading_turn, reading_none, reading_unit, reading_end)
