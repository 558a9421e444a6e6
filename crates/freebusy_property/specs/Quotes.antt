-- The parts of a line that quotes keep together: a byte within quotes parts nothing. Assumes nothing.
use Rattle.std.specs.Prelude.{ℕ, Bool, true, false, cond, ◌&&◌, not, List, [], ◌∷◌, eqb, Option, None, Some}
use Rattle.text_fields.specs.Parts.{on_first}
use Rattle.freebusy_lines.specs.Bytes.{QUOTE}

-- whether the byte after x stands in quotes, where x stands in them or not
abbrev pub quoted_after : Bool → ℕ → Bool
quoted_after quoted x = cond (eqb x QUOTE) (not quoted) quoted

-- a byte b outside quotes
abbrev pub parting : Bool → ℕ → ℕ → Bool
parting quoted b x = not quoted && eqb x b

-- x in front of the parts: a new part where it parts them, else one more byte of the first
abbrev pub one_more : Bool → ℕ → List (List ℕ) → List (List ℕ)
one_more true x ps = [] ∷ ps
one_more false x ps = on_first x ps

-- the parts between the bytes b that stand in no quotes; `quoted` where what begins here stands in quotes
unfoldable pub parts_in : Bool → ℕ → List ℕ → List (List ℕ)
parts_in quoted b [] = [] ∷ []
parts_in quoted b (x ∷ xs) = one_more (parting quoted b x) x (parts_in (quoted_after quoted x) b xs)

-- what stands before the first such byte, or all where there is none; and what follows it
unfoldable pub until_in : Bool → ℕ → List ℕ → List ℕ
until_in quoted b [] = []
until_in quoted b (x ∷ xs) = cond (parting quoted b x) [] (x ∷ until_in (quoted_after quoted x) b xs)

unfoldable pub after_in : Bool → ℕ → List ℕ → Option (List ℕ)
after_in quoted b [] = None
after_in quoted b (x ∷ xs) = cond (parting quoted b x) (Some xs) (after_in (quoted_after quoted x) b xs)

-- ---- of a line, which begins outside quotes

abbrev pub unquoted_parts : ℕ → List ℕ → List (List ℕ)
unquoted_parts b l = parts_in false b l

abbrev pub until_unquoted : ℕ → List ℕ → List ℕ
until_unquoted b l = until_in false b l

abbrev pub after_unquoted : ℕ → List ℕ → Option (List ℕ)
after_unquoted b l = after_in false b l
