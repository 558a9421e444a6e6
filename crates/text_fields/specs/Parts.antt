-- The parts of a text between the bytes that part them: lines between line feeds (10), fields between commas (44). Assumes nothing.
use Rattle.std.specs.Prelude.{ℕ, cond, List, [], ◌∷◌, eqb, None, Some}
use Rattle.text_fields.specs.declared.Parts.{Parts}

-- the bytes before the first b, or all of them where there is none
unfoldable pub until_byte : ℕ → List ℕ → List ℕ
until_byte b [] = []
until_byte b (x ∷ xs) = cond (eqb x b) [] (x ∷ until_byte b xs)

-- one more byte in front of the first part
abbrev pub on_first : ℕ → List (List ℕ) → List (List ℕ)
on_first x [] = (x ∷ []) ∷ []
on_first x (p ∷ ps) = (x ∷ p) ∷ ps

-- the parts between the bytes b: one more than there are such bytes
unfoldable pub parts : ℕ → List ℕ → List (List ℕ)
parts b [] = [] ∷ []
parts b (x ∷ xs) = cond (eqb x b) ([] ∷ parts b xs) (on_first x (parts b xs))

-- the parts that an iterator has still to give: none after the last one
abbrev pub parts_left : Parts → List (List ℕ)
parts_left p = elim p.rest [ None ↦ [] | Some rest ↦ parts p.stop rest.now ]
