-- Letters in the other case: words, names, parts and lines are the same, their letters aside. Assumes nothing.
use Prim.Native.Nat.{ℕ, ◌<◌}
use mathlib.Core.Bool.{Bool, true, false, cond, ◌&&◌, ◌||◌, not}
use mathlib.Core.List.{List, [], ◌∷◌, map}
use Rattle.std.specs.Prelude.{option_map, Some}
use mathlib.Core.Path.{◌≡◌, refl, ap, ap₂, ◌∙◌}
use native.Mathlib.Omega.{arith}
use lib.Dec.{eqb}
use Rattle.text_fields.specs.Parts.{until_byte}
use Rattle.letters.specs.Letters.{is_capital, capital, capitals}
use Rattle.letters.proofs.LetterLaws.{capital_twice, byte_unseen, digit_unseen}
use Rattle.freebusy_lines.specs.Bytes.{HYPHEN, spells, is_name_byte, leading, after}
use Rattle.freebusy_lines.specs.Lines.{Line, line, is_blank, is_crlf, starts_blank, in_front, sent_lines, unfolded, lines}

-- ---- words and names

pub spells_unseen : (w s : List ℕ) → spells w (capitals s) ≡ spells w s
unfolding spells
spells_unseen [] [] = refl
spells_unseen [] (x ∷ s) = refl
spells_unseen (y ∷ w) [] = refl
spells_unseen (y ∷ w) (x ∷ s) = ap₂ ◌&&◌ (ap (λ (z : ℕ). eqb z y) (capital_twice x)) (spells_unseen w s)

pub name_unseen : (x : ℕ) → is_name_byte (capital x) ≡ is_name_byte x
name_unseen x =
    ap₂ ◌||◌ (ap is_capital (capital_twice x)) (ap₂ ◌||◌ (digit_unseen x) (byte_unseen HYPHEN (omega arith) x))

pub leading_capitals : (p : ℕ → Bool) → ((x : ℕ) → p (capital x) ≡ p x) → (s : List ℕ) → leading p (capitals s) ≡ capitals (leading p s)
unfolding leading
leading_capitals p u [] = refl
leading_capitals p u (x ∷ s) = ap (λ (t : Bool). cond t (capital x ∷ leading p (capitals s)) []) (u x) ∙ go (p x) (leading_capitals p u s)
  where
    go : (t : Bool) → leading p (capitals s) ≡ capitals (leading p s) → cond t (capital x ∷ leading p (capitals s)) [] ≡ capitals (cond t (x ∷ leading p s) [])
    go true k = ap (λ (l : List ℕ). capital x ∷ l) k
    go false k = refl

-- ---- parts between bytes that are no letters

pub until_capitals : (b : ℕ) → b < 65 → (s : List ℕ) → until_byte b (capitals s) ≡ capitals (until_byte b s)
unfolding until_byte
until_capitals b h [] = refl
until_capitals b h (x ∷ s) = ap (λ (t : Bool). cond t [] (capital x ∷ until_byte b (capitals s))) (byte_unseen b h x) ∙ go (eqb x b) (until_capitals b h s)
  where
    go : (t : Bool) → until_byte b (capitals s) ≡ capitals (until_byte b s) → cond t [] (capital x ∷ until_byte b (capitals s)) ≡ capitals (cond t [] (x ∷ until_byte b s))
    go true k = refl
    go false k = ap (λ (l : List ℕ). capital x ∷ l) k

pub after_capitals : (b : ℕ) → b < 65 → (s : List ℕ) → after b (capitals s) ≡ option_map capitals (after b s)
unfolding after
after_capitals b h [] = refl
after_capitals b h (x ∷ s) = ap (λ (t : Bool). cond t (Some (capitals s)) (after b (capitals s))) (byte_unseen b h x) ∙ go (eqb x b) (after_capitals b h s)
  where
    go : (t : Bool) → after b (capitals s) ≡ option_map capitals (after b s) → cond t (Some (capitals s)) (after b (capitals s)) ≡ option_map capitals (cond t (Some s) (after b s))
    go true k = refl
    go false k = k

-- ---- lines

blank_unseen : (x : ℕ) → is_blank (capital x) ≡ is_blank x
blank_unseen x = ap₂ ◌||◌ (byte_unseen 32 (omega arith) x) (byte_unseen 9 (omega arith) x)

crlf_unseen : (x y : ℕ) → is_crlf (capital x) (capital y) ≡ is_crlf x y
crlf_unseen x y = ap₂ ◌&&◌ (byte_unseen 13 (omega arith) x) (byte_unseen 10 (omega arith) y)

starts_unseen : (s : List ℕ) → starts_blank (capitals s) ≡ starts_blank s
starts_unseen [] = refl
starts_unseen (x ∷ s) = blank_unseen x

abbrev pub line_capitals : Line → Line
line_capitals l = line (capitals l.bytes) l.ended

unfolded_capitals : (s : List ℕ) → unfolded (capitals s) ≡ capitals (unfolded s)
unfolding unfolded
unfolded_capitals [] = refl
unfolded_capitals (x ∷ []) = refl
unfolded_capitals (x ∷ y ∷ []) = refl
unfolded_capitals (x ∷ y ∷ z ∷ s) =
    ap (λ (t : Bool). cond t (unfolded (capitals s)) (capital x ∷ unfolded (capital y ∷ capital z ∷ capitals s))) (ap₂ ◌&&◌ (crlf_unseen x y) (blank_unseen z))
    ∙ go (is_crlf x y && is_blank z) (unfolded_capitals s) (unfolded_capitals (y ∷ z ∷ s))
  where
    go : (t : Bool) → unfolded (capitals s) ≡ capitals (unfolded s) → unfolded (capital y ∷ capital z ∷ capitals s) ≡ capitals (unfolded (y ∷ z ∷ s))
        → cond t (unfolded (capitals s)) (capital x ∷ unfolded (capital y ∷ capital z ∷ capitals s)) ≡ capitals (cond t (unfolded s) (x ∷ unfolded (y ∷ z ∷ s)))
    go true h k = h
    go false h k = ap (λ (l : List ℕ). capital x ∷ l) k

front_capitals : (x : ℕ) (ls : List Line) → in_front (capital x) (map line_capitals ls) ≡ map line_capitals (in_front x ls)
front_capitals x [] = refl
front_capitals x (l ∷ ls) = refl

sent_capitals : (s : List ℕ) → sent_lines (capitals s) ≡ map line_capitals (sent_lines s)
unfolding sent_lines
sent_capitals [] = refl
sent_capitals (x ∷ []) = refl
sent_capitals (x ∷ y ∷ s) =
    ap (λ (t : Bool). cond t (line [] true ∷ sent_lines (capitals s)) (in_front (capital x) (sent_lines (capital y ∷ capitals s))))
    (ap₂ (λ (a b : Bool). a && not b) (crlf_unseen x y) (starts_unseen s))
    ∙ go (is_crlf x y && not (starts_blank s)) (sent_capitals s) (sent_capitals (y ∷ s))
  where
    go : (t : Bool) → sent_lines (capitals s) ≡ map line_capitals (sent_lines s) → sent_lines (capital y ∷ capitals s) ≡ map line_capitals (sent_lines (y ∷ s))
        → cond t (line [] true ∷ sent_lines (capitals s)) (in_front (capital x) (sent_lines (capital y ∷ capitals s)))
        ≡ map line_capitals (cond t (line [] true ∷ sent_lines s) (in_front x (sent_lines (y ∷ s))))
    go true h k = ap (λ (ls : List Line). line [] true ∷ ls) h
    go false h k = ap (in_front (capital x)) k ∙ front_capitals x (sent_lines (y ∷ s))

pub lines_capitals : (s : List ℕ) → lines (capitals s) ≡ map line_capitals (lines s)
unfolding lines
lines_capitals s = ap (map (λ l. line (unfolded l.bytes) l.ended)) (sent_capitals s) ∙ go (sent_lines s)
  where
    go : (ls : List Line) → map (λ l. line (unfolded l.bytes) l.ended) (map line_capitals ls) ≡ map line_capitals (map (λ l. line (unfolded l.bytes) l.ended) ls)
    go [] = refl
    go (l ∷ ls) = ap₂ (λ (b : List ℕ) (m : List Line). line b l.ended ∷ m) (unfolded_capitals l.bytes) (go ls)
