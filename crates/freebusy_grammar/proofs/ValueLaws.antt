-- Names, tokens and values of parameters are passed over by a search for a separator. Assumes nothing.
use Prim.Native.Nat.{ℕ, zero, suc, ◌-◌, ◌<◌, ◌≤◌}
use mathlib.Core.Bool.{Bool, true, false, cond, not, ◌&&◌, and-false, or-false, false≢true}
use mathlib.Core.List.{List, [], ◌∷◌, ◌++◌}
use Rattle.std.specs.Prelude.{Option, None, Some}
use mathlib.Core.Path.{◌≡◌, refl, sym, ap, ◌∙◌}
use native.Mathlib.Omega.{arith}
use native.Mathlib.Decide.{dec_lt}
use lib.Dec.{eqb, leb}
use lib.ListN.{get_or, take}
use borrow.Author.Tests.{eqb-true, ne_eqb, lt-leb, le-leb, leb-true}
use Rattle.loops.specs.Lists.{all_of, is_empty, option}
use Rattle.loops.proofs.BoolLaws.{and_left, and_right, or_right, both}
use Rattle.text_fields.specs.Parts.{until_byte}
use Rattle.letters.specs.Letters.{is_capital, capital}
use Rattle.freebusy_lines.specs.Bytes.{spells, is_name_byte, iana_token, after}
use Rattle.freebusy_characters.specs.Utf8.{between, utf8_tail, utf8_2, starts_three, utf8_3, starts_four, utf8_4, non_us_ascii, first_of, characters_from, characters}
use Rattle.freebusy_characters.specs.ParamValue.{safe_char, qsafe_char, paramtext, quoted_string, param_value}
use Rattle.freebusy_grammar.proofs.ScanLaws.{Runs, stays, passes, runs_then, plain, plain_runs, inside_runs, no_byte, together}

-- a separator: no character of a text or a name, no quote, no equals sign
pub record Separates (b : ℕ) : Type 0 where
  pub low : b < 128
  pub no_char : safe_char b ≡ false
  pub no_name : is_name_byte b ≡ false
  pub no_quote_lem : eqb 34 b ≡ false
  pub no_equals : eqb 61 b ≡ false

pub comma : Separates 44
unfolding safe_char capital
comma = record { low = omega arith; no_char = refl; no_name = refl; no_quote_lem = refl; no_equals = refl }

pub colon : Separates 58
unfolding safe_char capital
colon = record { low = omega arith; no_char = refl; no_name = refl; no_quote_lem = refl; no_equals = refl }

pub semicolon : Separates 59
unfolding safe_char capital
semicolon = record { low = omega arith; no_char = refl; no_name = refl; no_quote_lem = refl; no_equals = refl }

-- ---- bytes that pass a test which a byte z does not pass are other bytes

pub apart : (t : ℕ → Bool) (x z : ℕ) → t z ≡ false → t x ≡ true → eqb x z ≡ false
apart t x z h e = ne_eqb x z (λ p. false≢true (sym h ∙ ap t (sym p) ∙ e))

pub all_so : (t u : ℕ → Bool) → ((x : ℕ) → t x ≡ true → u x ≡ true) → (l : List ℕ) → all_of t l ≡ true → all_of u l ≡ true
unfolding all_of
all_so t u f [] h = refl
all_so t u f (x ∷ l) h = both (f x (and_left (t x) (all_of t l) h)) (all_so t u f l (and_right (t x) (all_of t l) h))

quote_no_name : is_name_byte 34 ≡ false
unfolding capital
quote_no_name = refl

module _ (b : ℕ) (s : Separates b) where
  name_plain : (x : ℕ) → is_name_byte x ≡ true → plain b x ≡ true
  name_plain x h = rw (apart is_name_byte x 34 quote_no_name h, apart is_name_byte x b s.no_name h)

  pub names_run : (n : List ℕ) → all_of is_name_byte n ≡ true → Runs b false n false
  names_run n h = plain_runs b n (all_so is_name_byte (plain b) name_plain n h)

-- the bytes of a token, and of a word in capitals
pub token_names : (t : List ℕ) → iana_token t ≡ true → all_of is_name_byte t ≡ true
token_names t h = and_right (not (is_empty t)) (all_of is_name_byte t) h

pub spells_names : (w n : List ℕ) → all_of is_capital w ≡ true → spells w n ≡ true → all_of is_name_byte n ≡ true
unfolding spells all_of
spells_names [] [] h e = refl
spells_names [] (x ∷ n) h e = absurd (false≢true e)
spells_names (y ∷ w) [] h e = refl
spells_names (y ∷ w) (x ∷ n) h e =
    let c : is_capital (capital x) ≡ true = ap is_capital (eqb-true (capital x) y (and_left (eqb (capital x) y) (spells w n) e)) ∙ and_left (is_capital y) (all_of is_capital w) h in
    let d : is_name_byte x ≡ true = rw c in
    both d (spells_names w n (and_right (is_capital y) (all_of is_capital w) h) (and_right (eqb (capital x) y) (spells w n) e))

-- a name ends at the equals sign
equals_no_name : is_name_byte 61 ≡ false
unfolding capital
equals_no_name = refl

module _ (v : List ℕ) where
  pub name_until : (n : List ℕ) → all_of is_name_byte n ≡ true → until_byte 61 (n ++ (61 ∷ v)) ≡ n
  unfolding until_byte all_of
  name_until [] h = refl
  name_until (x ∷ n) h =
      rw (apart is_name_byte x 61 equals_no_name (and_left (is_name_byte x) (all_of is_name_byte n) h), name_until n (and_right (is_name_byte x) (all_of is_name_byte n) h))

  pub name_after : (n : List ℕ) → all_of is_name_byte n ≡ true → after 61 (n ++ (61 ∷ v)) ≡ Some v
  unfolding after all_of
  name_after [] h = refl
  name_after (x ∷ n) h =
      rw (apart is_name_byte x 61 equals_no_name (and_left (is_name_byte x) (all_of is_name_byte n) h)) (name_after n (and_right (is_name_byte x) (all_of is_name_byte n) h))

-- ---- characters of several bytes are above 127

high_of_lem : {r : Bool} (x : ℕ) → (x < 128 → r ≡ false) → r ≡ true → 128 ≤ x
high_of_lem x f e = go (dec_lt x 128)
  where
    go : Dec (x < 128) → 128 ≤ x
    go (yes h) = absurd (false≢true (sym (f h) ∙ e))
    go (no n) = omega arith

tail_high : (x : ℕ) → utf8_tail x ≡ true → 128 ≤ x
tail_high x e = leb-true 0x80 x (and_left (leb 0x80 x) (leb x 0xbf) e)

two_high : (a b : ℕ) → utf8_2 a b ≡ true → (128 ≤ a) × (128 ≤ b)
unfolding utf8_2
two_high a b e =
    let h = leb-true 0xc2 a (and_left (leb 0xc2 a) (leb a 0xdf) (and_left (between 0xc2 0xdf a) (utf8_tail b) e)) in
    (omega arith, tail_high b (and_right (between 0xc2 0xdf a) (utf8_tail b) e))

three_high : (a b : ℕ) → starts_three a b ≡ true → (128 ≤ a) × (128 ≤ b)
unfolding starts_three
three_high a b e = (
  high_of_lem a (λ h. rw (ne_eqb a 0xe0 (λ z. omega arith), lt-leb 0xe1 a (omega arith), ne_eqb a 0xed (λ z. omega arith), lt-leb 0xee a (omega arith))) e,
  high_of_lem b (λ h. rw (lt-leb 0xa0 b (omega arith), lt-leb 0x80 b (omega arith)) (simp (and-false, or-false))) e,
)

four_high : (a b : ℕ) → starts_four a b ≡ true → (128 ≤ a) × (128 ≤ b)
unfolding starts_four
four_high a b e = (
  high_of_lem a (λ h. rw (ne_eqb a 0xf0 (λ z. omega arith), lt-leb 0xf1 a (omega arith), ne_eqb a 0xf4 (λ z. omega arith))) e,
  high_of_lem b (λ h. rw (lt-leb 0x90 b (omega arith), lt-leb 0x80 b (omega arith)) (simp (and-false, or-false))) e,
)

of_three : (a b c : ℕ) → utf8_3 a b c ≡ true → (128 ≤ a) × (128 ≤ b) × (128 ≤ c)
unfolding utf8_3
of_three a b c e =
    let f = three_high a b (and_left (starts_three a b) (utf8_tail c) e) in
    (f.0, f.1, tail_high c (and_right (starts_three a b) (utf8_tail c) e))

of_four : (a b c d : ℕ) → utf8_4 a b c d ≡ true → (128 ≤ a) × (128 ≤ b) × (128 ≤ c) × (128 ≤ d)
unfolding utf8_4
of_four a b c d e =
    let f = four_high a b (and_left (starts_four a b) (utf8_tail c && utf8_tail d) e) in
    let t = and_right (starts_four a b) (utf8_tail c && utf8_tail d) e in
    (f.0, f.1, tail_high c (and_left (utf8_tail c) (utf8_tail d) t), tail_high d (and_right (utf8_tail c) (utf8_tail d) t))

-- the first k bytes are above 127
abbrev high : ℕ → List ℕ → Bool
high k l = all_of (leb 128) (take k l)

one_high : (l : List ℕ) → 128 ≤ get_or l 0 0 → high 1 l ≡ true
unfolding all_of
one_high [] h = refl
one_high (x ∷ l) h = rw (le-leb 128 x h)

twice_high : (l : List ℕ) → 128 ≤ get_or l 0 0 → 128 ≤ get_or l 1 0 → high 2 l ≡ true
unfolding all_of
twice_high [] h k = refl
twice_high (x ∷ l) h k = both (le-leb 128 x h) (one_high l k)

thrice_high : (l : List ℕ) → 128 ≤ get_or l 0 0 → 128 ≤ get_or l 1 0 → 128 ≤ get_or l 2 0 → high 3 l ≡ true
unfolding all_of
thrice_high [] h k m = refl
thrice_high (x ∷ l) h k m = both (le-leb 128 x h) (twice_high l k m)

-- what comes first is of n bytes, which are all above 127
several_high : (x : ℕ) (l : List ℕ) (n : ℕ) → non_us_ascii (x ∷ l) ≡ Some n → (128 ≤ x) × (high (n - 1) l ≡ true)
unfolding non_us_ascii
several_high x l n e = two (utf8_2 x (get_or l 0 0)) refl e
  where
    four : (t : Bool) → utf8_4 x (get_or l 0 0) (get_or l 1 0) (get_or l 2 0) ≡ t → cond t (Some 4) None ≡ Some n → (128 ≤ x) × (high (n - 1) l ≡ true)
    four true p e =
        let f = of_four x (get_or l 0 0) (get_or l 1 0) (get_or l 2 0) p in
        let k : n ≡ 4 = cc in
        (f.0, rw k (thrice_high l f.1 f.2 f.3))
    four false p e = cc

    three : (t : Bool) → utf8_3 x (get_or l 0 0) (get_or l 1 0) ≡ t → cond t (Some 3) (cond (utf8_4 x (get_or l 0 0) (get_or l 1 0) (get_or l 2 0)) (Some 4) None) ≡ Some n
        → (128 ≤ x) × (high (n - 1) l ≡ true)
    three true p e =
        let f = of_three x (get_or l 0 0) (get_or l 1 0) p in
        let k : n ≡ 3 = cc in
        (f.0, rw k (twice_high l f.1 f.2))
    three false p e = four (utf8_4 x (get_or l 0 0) (get_or l 1 0) (get_or l 2 0)) refl e

    two : (t : Bool) → utf8_2 x (get_or l 0 0) ≡ t
        → cond t (Some 2) (cond (utf8_3 x (get_or l 0 0) (get_or l 1 0)) (Some 3) (cond (utf8_4 x (get_or l 0 0) (get_or l 1 0) (get_or l 2 0)) (Some 4) None)) ≡ Some n
        → (128 ≤ x) × (high (n - 1) l ≡ true)
    two true p e = let f = two_high x (get_or l 0 0) p in let k : n ≡ 2 = cc in (f.0, rw k (one_high l f.1))
    two false p e = three (utf8_3 x (get_or l 0 0) (get_or l 1 0)) refl e

-- ---- texts and values

quote_no_char : safe_char 34 ≡ false
unfolding safe_char
quote_no_char = refl

module _ (b : ℕ) (s : Separates b) where
  safe_plain : (x : ℕ) → safe_char x ≡ true → plain b x ≡ true
  safe_plain x h = rw (apart safe_char x 34 quote_no_char h, apart safe_char x b s.no_char h)

  high_plain : (x : ℕ) → 128 ≤ x → plain b x ≡ true
  high_plain x h = rw (ne_eqb x 34 (λ z. omega arith), ne_eqb x b (λ z. omega (arith, s.low)))

  text_plain : (k : ℕ) (l : List ℕ) → characters_from safe_char k l ≡ true → high k l ≡ true → all_of (plain b) l ≡ true
  unfolding characters_from all_of
  text_plain zero [] e h = refl
  text_plain (suc k) [] e h = refl
  text_plain (suc k) (x ∷ l) e h =
      both (high_plain x (leb-true 128 x (and_left (leb 128 x) (high k l) h))) (text_plain k l e (and_right (leb 128 x) (high k l) h))
  text_plain zero (x ∷ l) e h = go (first_of safe_char (x ∷ l)) refl e (λ m. text_plain m l)
    where
      first : (n : ℕ) → first_of safe_char (x ∷ l) ≡ Some n → (plain b x ≡ true) × (high (n - 1) l ≡ true)
      first n p = one (safe_char x) refl (unfold first_of in p)
        where
          one : (t : Bool) → safe_char x ≡ t → cond t (Some 1) (non_us_ascii (x ∷ l)) ≡ Some n → (plain b x ≡ true) × (high (n - 1) l ≡ true)
          one true q p = let k : n ≡ 1 = cc in (safe_plain x q, rw k)
          one false q p = let f = several_high x l n p in (high_plain x f.0, f.1)

      go : (o : Option ℕ) → first_of safe_char (x ∷ l) ≡ o → option o false (λ n. characters_from safe_char (n - 1) l) ≡ true
          → ((m : ℕ) → characters_from safe_char m l ≡ true → high m l ≡ true → all_of (plain b) l ≡ true) → (plain b x && all_of (plain b) l) ≡ true
      go None p e f = absurd (false≢true e)
      go (Some n) p e f = let g = first n p in both g.0 (f (n - 1) e g.1)

  quoted_run : (v : List ℕ) → quoted_string v ≡ true → Runs b false v false
  unfolding quoted_string
  quoted_run [] h = absurd (false≢true h)
  quoted_run (x ∷ xs) h =
      let q = eqb-true x 34 (and_left (eqb x 34) (characters qsafe_char (until_byte 34 xs) && option (after 34 xs) false is_empty) h) in
      let i = and_right (characters qsafe_char (until_byte 34 xs)) (option (after 34 xs) false is_empty) (and_right (eqb x 34) (characters qsafe_char (until_byte 34 xs) && option (after 34 xs) false is_empty) h) in
      rw q (go (after 34 xs) refl i)
    where
      go : (o : Option (List ℕ)) → after 34 xs ≡ o → option o false is_empty ≡ true → Runs b false (34 ∷ xs) false
      go None p i = absurd (false≢true i)
      go (Some []) p i =
          let w : Runs b true (until_byte 34 xs ++ (34 ∷ [])) false = runs_then (inside_runs b (until_byte 34 xs) (no_byte 34 xs)) (passes 34 refl stays) in
          passes 34 s.no_quote_lem (rw (← together 34 xs [] p) at w)
      go (Some (y ∷ r)) p i = absurd (false≢true i)

  pub value_run : (v : List ℕ) → param_value v ≡ true → Runs b false v false
  unfolding param_value paramtext all_of
  value_run v h = go (paramtext v) refl
    where
      go : (t : Bool) → paramtext v ≡ t → Runs b false v false
      go true p = plain_runs b v (text_plain 0 v p refl)
      go false p = quoted_run v (or_right (paramtext v) (quoted_string v) h p)
