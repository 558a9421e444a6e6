-- A value with its letters in the other case is a value or none alike. Characters above 127 have no case here. Assumes nothing.
use Prim.Native.Nat.{ℕ, zero, suc, ◌-◌, ◌≤◌, ◌<◌}
use mathlib.Core.Bool.{Bool, true, false, ◌&&◌, ◌||◌}
use mathlib.Core.List.{List, [], ◌∷◌}
use Rattle.std.specs.Prelude.{Option, None, Some, option_map}
use mathlib.Core.Path.{◌≡◌, refl, sym, ap, ap₂, ◌∙◌}
use native.Mathlib.Omega.{arith}
use lib.Dec.{eqb}
use lib.ListN.{get_or, get_or-map}
use Rattle.std.proofs.lemmas.Bool.Decides.{nat_tests}
use borrow.Author.Tests.{lt-leb, ne_eqb}
use Rattle.loops.specs.Lists.{is_empty, option}
use Rattle.text_fields.specs.Parts.{until_byte}
use Rattle.letters.specs.Letters.{capital, capitals}
use Rattle.letters.proofs.LetterLaws.{unseen, byte_unseen}
use Rattle.freebusy_lines.specs.Bytes.{after}
use Rattle.freebusy_lines.proofs.CaseLaws.{until_capitals, after_capitals}
use Rattle.freebusy_characters.specs.Utf8.{between, utf8_tail, utf8_2, starts_three, utf8_3, starts_four, utf8_4, non_us_ascii, first_of, characters_from, characters}
use Rattle.freebusy_characters.specs.ParamValue.{qsafe_char, safe_char, paramtext, quoted_string, param_value}

-- ---- bytes above 127

range_unseen : (low high : ℕ) → 127 < low → (x : ℕ) → between low high (capital x) ≡ between low high x
range_unseen low high h x = unseen (between low high) (λ y l m. rw (lt-leb low (y - 32) (omega arith), lt-leb low y (omega arith))) x

equal_unseen : (b : ℕ) → 127 < b → (x : ℕ) → eqb (capital x) b ≡ eqb x b
equal_unseen b h x = unseen (λ y. eqb y b) (λ y l m. rw (ne_eqb (y - 32) b (λ e. omega arith), ne_eqb y b (λ e. omega arith))) x

tail_unseen : (x : ℕ) → utf8_tail (capital x) ≡ utf8_tail x
tail_unseen x = range_unseen 0x80 0xbf (omega arith) x

two_unseen : (a b : ℕ) → utf8_2 (capital a) (capital b) ≡ utf8_2 a b
unfolding utf8_2
two_unseen a b = ap₂ ◌&&◌ (range_unseen 0xc2 0xdf (omega arith) a) (tail_unseen b)

three_unseen : (a b c : ℕ) → utf8_3 (capital a) (capital b) (capital c) ≡ utf8_3 a b c
unfolding utf8_3 starts_three
three_unseen a b c =
    ap₂ ◌&&◌
    (ap₂ ◌||◌
    (ap₂ ◌||◌
    (ap₂ ◌||◌ (ap₂ ◌&&◌ (equal_unseen 0xe0 (omega arith) a) (range_unseen 0xa0 0xbf (omega arith) b)) (ap₂ ◌&&◌ (range_unseen 0xe1 0xec (omega arith) a) (tail_unseen b)))
    (ap₂ ◌&&◌ (equal_unseen 0xed (omega arith) a) (range_unseen 0x80 0x9f (omega arith) b)))
    (ap₂ ◌&&◌ (range_unseen 0xee 0xef (omega arith) a) (tail_unseen b)))
    (tail_unseen c)

four_unseen : (a b c d : ℕ) → utf8_4 (capital a) (capital b) (capital c) (capital d) ≡ utf8_4 a b c d
unfolding utf8_4 starts_four
four_unseen a b c d =
    ap₂ ◌&&◌
    (ap₂ ◌||◌
    (ap₂ ◌||◌ (ap₂ ◌&&◌ (equal_unseen 0xf0 (omega arith) a) (range_unseen 0x90 0xbf (omega arith) b)) (ap₂ ◌&&◌ (range_unseen 0xf1 0xf3 (omega arith) a) (tail_unseen b)))
    (ap₂ ◌&&◌ (equal_unseen 0xf4 (omega arith) a) (range_unseen 0x80 0x8f (omega arith) b)))
    (ap₂ ◌&&◌ (tail_unseen c) (tail_unseen d))

-- ---- texts

byte_capital : (l : List ℕ) (k : ℕ) → get_or (capitals l) k 0 ≡ capital (get_or l k 0)
unfolding capital
byte_capital l k = get_or-map capital l k 0

several_unseen : (l : List ℕ) → non_us_ascii (capitals l) ≡ non_us_ascii l
unfolding non_us_ascii
several_unseen l =
    let a = get_or l 0 0 in
    let b = get_or l 1 0 in
    let c = get_or l 2 0 in
    let d = get_or l 3 0 in
    rw (byte_capital l 0, byte_capital l 1, byte_capital l 2, byte_capital l 3, two_unseen a b, three_unseen a b c, four_unseen a b c d)

module _ (t : ℕ → Bool) (h : (x : ℕ) → t (capital x) ≡ t x) where
  first_unseen : (l : List ℕ) → first_of t (capitals l) ≡ first_of t l
  unfolding first_of
  first_unseen l = rw (byte_capital l 0, h (get_or l 0 0), several_unseen l)

  from_unseen : (k : ℕ) (l : List ℕ) → characters_from t k (capitals l) ≡ characters_from t k l
  unfolding characters_from
  from_unseen zero [] = refl
  from_unseen (suc k) [] = refl
  from_unseen (suc k) (x ∷ l) = from_unseen k l
  from_unseen zero (x ∷ l) =
      ap (λ o. option o false (λ n. characters_from t (n - 1) (capitals l))) (first_unseen (x ∷ l)) ∙ go (first_of t (x ∷ l)) (λ n. from_unseen (n - 1) l)
    where
      go : (o : Option ℕ) → ((n : ℕ) → characters_from t (n - 1) (capitals l) ≡ characters_from t (n - 1) l)
          → option o false (λ n. characters_from t (n - 1) (capitals l)) ≡ option o false (λ n. characters_from t (n - 1) l)
      go None u = refl
      go (Some n) u = u n

  characters_unseen : (l : List ℕ) → characters t (capitals l) ≡ characters t l
  characters_unseen l = from_unseen 0 l

-- ---- values

qsafe_letter : (x : ℕ) → 65 ≤ x → x ≤ 122 → qsafe_char x ≡ true
unfolding qsafe_char
qsafe_letter x l m = grind (arith, nat_tests)

safe_letter : (x : ℕ) → 65 ≤ x → x ≤ 122 → safe_char x ≡ true
unfolding safe_char
safe_letter x l m = grind (arith, nat_tests)

qsafe_unseen : (x : ℕ) → qsafe_char (capital x) ≡ qsafe_char x
qsafe_unseen x = unseen qsafe_char (λ y l m. qsafe_letter (y - 32) (omega arith) (omega arith) ∙ sym (qsafe_letter y (omega arith) m)) x

safe_unseen : (x : ℕ) → safe_char (capital x) ≡ safe_char x
safe_unseen x = unseen safe_char (λ y l m. safe_letter (y - 32) (omega arith) (omega arith) ∙ sym (safe_letter y (omega arith) m)) x

empty_unseen : (l : List ℕ) → is_empty (capitals l) ≡ is_empty l
empty_unseen [] = refl
empty_unseen (x ∷ l) = refl

quoted_unseen : (v : List ℕ) → quoted_string (capitals v) ≡ quoted_string v
unfolding quoted_string
quoted_unseen [] = refl
quoted_unseen (x ∷ xs) =
    ap₂ ◌&&◌ (byte_unseen 34 (omega arith) x)
    (ap₂ ◌&&◌
    (ap (characters qsafe_char) (until_capitals 34 (omega arith) xs) ∙ characters_unseen qsafe_char qsafe_unseen (until_byte 34 xs))
    (ap (λ o. option o false is_empty) (after_capitals 34 (omega arith) xs) ∙ go (after 34 xs)))
  where
    go : (o : Option (List ℕ)) → option (option_map capitals o) false is_empty ≡ option o false is_empty
    go None = refl
    go (Some l) = empty_unseen l

pub value_unseen : (v : List ℕ) → param_value (capitals v) ≡ param_value v
unfolding param_value paramtext
value_unseen v = ap₂ ◌||◌ (characters_unseen safe_char safe_unseen v) (quoted_unseen v)
