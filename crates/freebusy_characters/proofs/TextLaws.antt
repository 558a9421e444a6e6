-- Laws of texts of characters, read one character after the other. Assumes nothing.
use Rattle.std.proofs.Common.{◌≡◌, refl, sym, ℕ, zero, suc, ◌-◌, ◌<◌, ◌≤◌, true, false, Bool, cond, List, [], ◌∷◌, length, take, drop, get_or, Option, Some, None, arith}
use Rattle.loops.specs.Lists.{option}
use Rattle.loops.proofs.ListLaws.{rest_is}
use Rattle.freebusy_characters.specs.Utf8.{utf8_2, utf8_3, utf8_4, non_us_ascii, first_of, characters_from, characters}

-- ---- the bytes of a character, 0 for none

cond_small : (t : Bool) (a b : Option ℕ) → option a 0 (λ n. n) ≤ 4 → option b 0 (λ n. n) ≤ 4 → option (cond t a b) 0 (λ n. n) ≤ 4
cond_small true a b h k = h
cond_small false a b h k = k

several_small : (l : List ℕ) → option (non_us_ascii l) 0 (λ n. n) ≤ 4
unfolding non_us_ascii
several_small l =
    let a = get_or l 0 0 in
    let b = get_or l 1 0 in
    let c = get_or l 2 0 in
    cond_small (utf8_2 a b) (Some 2) _ (omega arith)
    (cond_small (utf8_3 a b c) (Some 3) _ (omega arith) (cond_small (utf8_4 a b c (get_or l 3 0)) (Some 4) None (omega arith) (omega arith)))

-- ---- texts

-- bytes that were read already are passed over
skipped : (t : ℕ → Bool) (k : ℕ) (l : List ℕ) → characters_from t k l ≡ characters t (drop k l)
unfolding characters_from
skipped t zero l = refl
skipped t (suc k) [] = refl
skipped t (suc k) (x ∷ l) = skipped t k l

module _ (t : ℕ → Bool) where
  pub text_end : (l : List ℕ) → length l < 1 → characters t l ≡ true
  unfolding characters_from
  text_end [] h = refl
  text_end (x ∷ l) h = absurd (omega arith)

  pub text_off : (l : List ℕ) → 1 ≤ length l → t (get_or l 0 0) ≡ false → non_us_ascii l ≡ None → characters t l ≡ false
  unfolding characters_from first_of
  text_off [] h q e = absurd (omega arith)
  text_off (x ∷ l) h q e = rw (q, e)

  -- past one character
  pub text_on : (x : ℕ) (l : List ℕ) (n : ℕ) → 0 < n → first_of t (x ∷ l) ≡ Some n → characters t (drop n (x ∷ l)) ≡ characters t (x ∷ l)
  unfolding characters_from
  text_on x l zero k e = absurd (omega arith)
  text_on x l (suc m) k e = let z : suc m - 1 ≡ m = omega arith in rw (e, z) (sym (skipped t m l))

  pub text_one : (l : List ℕ) → 1 ≤ length l → t (get_or l 0 0) ≡ true → characters t (take (length l - 1) (drop 1 l)) ≡ characters t l
  unfolding first_of
  text_one [] h q = absurd (omega arith)
  text_one (x ∷ l) h q = rw (rest_is 1 (x ∷ l)) (text_on x l 1 (omega arith) (rw q))

  pub text_more : (l : List ℕ) (n : ℕ) → 1 ≤ length l → t (get_or l 0 0) ≡ false → non_us_ascii l ≡ Some n → 0 < n → characters t (take (length l - n) (drop n l)) ≡ characters t l
  unfolding first_of
  text_more [] n h q e k = absurd (omega arith)
  text_more (x ∷ l) n h q e k = rw (rest_is n (x ∷ l)) (text_on x l n k (rw (q, e)))

pub ruleset texts = (text_end, text_off, text_one, text_more)
