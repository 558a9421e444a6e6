-- Bytes by their numbers, and words with letters in either case. Assumes nothing.
use Rattle.std.specs.Prelude.{ℕ, Bool, true, false, cond, ◌&&◌, ◌||◌, not, List, [], ◌∷◌, eqb, Option, None, Some}
use Rattle.loops.specs.Lists.{all_of, is_empty}
use Rattle.text_fields.specs.Spelling.{is_digit}
use Rattle.letters.specs.Letters.{is_capital, capital}

abbrev pub QUOTE : ℕ
QUOTE = 34

abbrev pub PLUS : ℕ
PLUS = 43

abbrev pub COMMA : ℕ
COMMA = 44

abbrev pub HYPHEN : ℕ
HYPHEN = 45

abbrev pub SLASH : ℕ
SLASH = 47

abbrev pub COLON : ℕ
COLON = 58

abbrev pub SEMICOLON : ℕ
SEMICOLON = 59

abbrev pub EQUALS : ℕ
EQUALS = 61

-- the bytes spell the word, which is given in capitals, letters in either case
unfoldable pub spells : List ℕ → List ℕ → Bool
spells [] [] = true
spells [] (x ∷ xs) = false
spells (w ∷ ws) [] = false
spells (w ∷ ws) (x ∷ xs) = eqb (capital x) w && spells ws xs

-- a byte of a name: ALPHA / DIGIT / "-"
abbrev pub is_name_byte : ℕ → Bool
is_name_byte x = is_capital (capital x) || (is_digit x || eqb x HYPHEN)

-- iana-token = 1*(ALPHA / DIGIT / "-"); every x-name is one by its characters
abbrev pub iana_token : List ℕ → Bool
iana_token s = not (is_empty s) && all_of is_name_byte s

-- the leading bytes that pass the test
unfoldable pub leading : (ℕ → Bool) → List ℕ → List ℕ
leading p [] = []
leading p (x ∷ xs) = cond (p x) (x ∷ leading p xs) []

-- what follows the first byte b; none where there is no b
unfoldable pub after : ℕ → List ℕ → Option (List ℕ)
after b [] = None
after b (x ∷ xs) = cond (eqb x b) (Some xs) (after b xs)
