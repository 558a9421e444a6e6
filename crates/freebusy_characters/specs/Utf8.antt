-- NON-US-ASCII of RFC 5545, 3.1: the characters above 127 as RFC 3629 spells them, in two, three or four bytes. No overlong form, no surrogate, nothing
-- above U+10FFFF. Assumes nothing.
use Rattle.std.specs.Prelude.{ℕ, zero, suc, ◌-◌, Bool, true, false, cond, ◌&&◌, ◌||◌, List, [], ◌∷◌, Option, None, Some, eqb, leb, get_or}
use Rattle.loops.specs.Lists.{option}

-- %xLOW-HIGH
abbrev pub between : ℕ → ℕ → ℕ → Bool
between low high x = leb low x && leb x high

-- UTF8-tail = %x80-BF
abbrev pub utf8_tail : ℕ → Bool
utf8_tail x = between 0x80 0xbf x

-- UTF8-2 = %xC2-DF UTF8-tail
unfoldable pub utf8_2 : ℕ → ℕ → Bool
utf8_2 a b = between 0xc2 0xdf a && utf8_tail b

-- UTF8-3 = %xE0 %xA0-BF UTF8-tail / %xE1-EC 2( UTF8-tail ) / %xED %x80-9F UTF8-tail / %xEE-EF 2( UTF8-tail )
unfoldable pub starts_three : ℕ → ℕ → Bool
starts_three a b =
    (eqb a 0xe0 && between 0xa0 0xbf b)
    || (between 0xe1 0xec a && utf8_tail b)
    || (eqb a 0xed && between 0x80 0x9f b)
    || (between 0xee 0xef a && utf8_tail b)

unfoldable pub utf8_3 : ℕ → ℕ → ℕ → Bool
utf8_3 a b c = starts_three a b && utf8_tail c

-- UTF8-4 = %xF0 %x90-BF 2( UTF8-tail ) / %xF1-F3 3( UTF8-tail ) / %xF4 %x80-8F 2( UTF8-tail )
unfoldable pub starts_four : ℕ → ℕ → Bool
starts_four a b =
    (eqb a 0xf0 && between 0x90 0xbf b)
    || (between 0xf1 0xf3 a && utf8_tail b)
    || (eqb a 0xf4 && between 0x80 0x8f b)

unfoldable pub utf8_4 : ℕ → ℕ → ℕ → ℕ → Bool
utf8_4 a b c d = starts_four a b && (utf8_tail c && utf8_tail d)

-- NON-US-ASCII = UTF8-2 / UTF8-3 / UTF8-4: of how many bytes the one is that comes first. Past the end of the bytes stands 0, which is no UTF8-tail
unfoldable pub non_us_ascii : List ℕ → Option ℕ
non_us_ascii l =
    cond (utf8_2 (get_or l 0 0) (get_or l 1 0)) (Some 2)
    (cond (utf8_3 (get_or l 0 0) (get_or l 1 0) (get_or l 2 0)) (Some 3)
    (cond (utf8_4 (get_or l 0 0) (get_or l 1 0) (get_or l 2 0) (get_or l 3 0)) (Some 4) None))

-- ---- texts of characters, of which those of one byte pass a test

-- of how many bytes the character is that comes first
unfoldable pub first_of : (ℕ → Bool) → List ℕ → Option ℕ
first_of test l = cond (test (get_or l 0 0)) (Some 1) (non_us_ascii l)

-- *( one byte that passes the test / NON-US-ASCII ), where the first `read` bytes are of a character that was read already
unfoldable pub characters_from : (ℕ → Bool) → ℕ → List ℕ → Bool
characters_from test read [] = true
characters_from test (suc read) (x ∷ l) = characters_from test read l
characters_from test zero (x ∷ l) = option (first_of test (x ∷ l)) false (λ n. characters_from test (n - 1) l)

abbrev pub characters : (ℕ → Bool) → List ℕ → Bool
characters test l = characters_from test 0 l
