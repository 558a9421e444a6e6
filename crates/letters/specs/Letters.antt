-- Letters in either case. Bytes are given by their numbers: 65 to 90 are the capitals, 97 to 122 the small letters. Assumes nothing.
use Rattle.std.specs.Prelude.{ℕ, ◌-◌, Bool, cond, ◌&&◌, List, map, leb, eqb}

abbrev pub is_capital : ℕ → Bool
is_capital x = leb 65 x && leb x 90

abbrev pub is_small : ℕ → Bool
is_small x = leb 97 x && leb x 122

-- a letter in either case as its capital; other bytes as they are
unfoldable pub capital : ℕ → ℕ
capital x = cond (is_small x) (x - 32) x

-- the letter c, given as a capital, in either case
abbrev pub is_letter : ℕ → ℕ → Bool
is_letter c x = eqb (capital x) c

-- the bytes with all their letters as capitals: where these are equal for two texts, the texts differ in the case of letters alone
abbrev pub capitals : List ℕ → List ℕ
capitals s = map capital s

-- ---- the letters of dates and durations

abbrev pub LETTER_D : ℕ
LETTER_D = 68

abbrev pub LETTER_H : ℕ
LETTER_H = 72

abbrev pub LETTER_M : ℕ
LETTER_M = 77

abbrev pub LETTER_P : ℕ
LETTER_P = 80

abbrev pub LETTER_S : ℕ
LETTER_S = 83

abbrev pub LETTER_T : ℕ
LETTER_T = 84

abbrev pub LETTER_W : ℕ
LETTER_W = 87

abbrev pub LETTER_Z : ℕ
LETTER_Z = 90
