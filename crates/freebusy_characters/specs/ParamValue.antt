-- The value of a parameter: RFC 5545, 3.1, one definition for each production. Assumes nothing.
use Rattle.std.specs.Prelude.{ℕ, Bool, false, ◌&&◌, ◌||◌, List, [], ◌∷◌, eqb}
use Rattle.loops.specs.Lists.{is_empty, option}
use Rattle.text_fields.specs.Parts.{until_byte}
use Rattle.freebusy_lines.specs.Bytes.{QUOTE, after}
use Rattle.freebusy_characters.specs.Utf8.{between, characters}

-- WSP = SP / HTAB
abbrev pub wsp : ℕ → Bool
wsp x = eqb x 0x20 || eqb x 0x09

-- QSAFE-CHAR = WSP / %x21 / %x23-7E / NON-US-ASCII: those of one byte
unfoldable pub qsafe_char : ℕ → Bool
qsafe_char x = wsp x || eqb x 0x21 || between 0x23 0x7e x

-- SAFE-CHAR = WSP / %x21 / %x23-2B / %x2D-39 / %x3C-7E / NON-US-ASCII: those of one byte
unfoldable pub safe_char : ℕ → Bool
safe_char x = wsp x || eqb x 0x21 || between 0x23 0x2b x || between 0x2d 0x39 x || between 0x3c 0x7e x

-- paramtext = *SAFE-CHAR
unfoldable pub paramtext : List ℕ → Bool
paramtext v = characters safe_char v

-- quoted-string = DQUOTE *QSAFE-CHAR DQUOTE
unfoldable pub quoted_string : List ℕ → Bool
quoted_string [] = false
quoted_string (x ∷ xs) = eqb x QUOTE && (characters qsafe_char (until_byte QUOTE xs) && option (after QUOTE xs) false is_empty)

-- param-value = paramtext / quoted-string
unfoldable pub param_value : List ℕ → Bool
param_value v = paramtext v || quoted_string v
