-- Lines, computed: whether each has the name FREEBUSY, keeps to the grammar, and says FREE. Assumes nothing.
use Prim.Native.Nat.{ℕ}
use mathlib.Core.Bool.{Bool, true, false}
use mathlib.Core.List.{List, [], ◌∷◌, map}
use mathlib.Core.Path.{◌≡◌, refl}
use Rattle.loops.specs.Lists.{all_of, any_of, count_of}
use Rattle.text_fields.specs.Parts.{until_byte, parts}
use Rattle.letters.specs.Letters.{capital}
use Rattle.dates.specs.DateTime.{date, time, date_time}
use Rattle.freebusy_lines.specs.Bytes.{spells, leading, after}
use Rattle.freebusy_periods.specs.Duration.{counted_from, then_maybe, dur_second, dur_minute, dur_hour, dur_time, dur_date, dur_week, dur_unsigned, dur_value}
use Rattle.freebusy_periods.specs.Period.{period_explicit, period_start, period}
use Rattle.freebusy_characters.specs.Utf8.{utf8_2, starts_three, utf8_3, starts_four, utf8_4, non_us_ascii, first_of, characters_from}
use Rattle.freebusy_characters.specs.ParamValue.{qsafe_char, safe_char, paramtext, quoted_string, param_value}
use Rattle.freebusy_property.specs.Quotes.{parts_in, until_in, after_in}
use Rattle.freebusy_property.specs.Property.{param_values, param, is_fbtype, fbtypeparam, other_param, one_fbparam, fbparam, params_in, named, fbvalue, freebusy, is_freebusy, says_free, is_free}

abbrev told : List ℕ → List Bool
told l = is_freebusy l ∷ freebusy l ∷ is_free l ∷ []

-- as in the RFC
abbrev busy : List ℕ
busy = 70 ∷ 82 ∷ 69 ∷ 69 ∷ 66 ∷ 85 ∷ 83 ∷ 89 ∷ 59 ∷ 70 ∷ 66 ∷ 84 ∷ 89 ∷ 80 ∷ 69 ∷ 61 ∷ 66 ∷ 85 ∷ 83 ∷ 89 ∷ 45 ∷ 85 ∷ 78 ∷ 65 ∷ 86 ∷ 65 ∷ 73 ∷ 76 ∷ 65 ∷ 66 ∷ 76 ∷ 69 ∷ 58 ∷ 49 ∷ 57 ∷ 57 ∷ 55 ∷ 48 ∷ 51 ∷ 48 ∷ 56 ∷ 84 ∷ 49 ∷ 54 ∷ 48 ∷ 48 ∷ 48 ∷ 48 ∷ 90 ∷ 47 ∷ 80 ∷ 84 ∷ 56 ∷ 72 ∷ 51 ∷ 48 ∷ 77 ∷ []

-- as in the RFC, two periods
abbrev free : List ℕ
free = 70 ∷ 82 ∷ 69 ∷ 69 ∷ 66 ∷ 85 ∷ 83 ∷ 89 ∷ 59 ∷ 70 ∷ 66 ∷ 84 ∷ 89 ∷ 80 ∷ 69 ∷ 61 ∷ 70 ∷ 82 ∷ 69 ∷ 69 ∷ 58 ∷ 49 ∷ 57 ∷ 57 ∷ 55 ∷ 48 ∷ 51 ∷ 48 ∷ 56 ∷ 84 ∷ 49 ∷ 54 ∷ 48 ∷ 48 ∷ 48 ∷ 48 ∷ 90 ∷ 47 ∷ 80 ∷ 84 ∷ 51 ∷ 72 ∷ 44 ∷ 49 ∷ 57 ∷ 57 ∷ 55 ∷ 48 ∷ 51 ∷ 48 ∷ 56 ∷ 84 ∷ 50 ∷ 48 ∷ 48 ∷ 48 ∷ 48 ∷ 48 ∷ 90 ∷ 47 ∷ 80 ∷ 84 ∷ 49 ∷ 72 ∷ []

-- in small letters
abbrev small : List ℕ
small = 102 ∷ 114 ∷ 101 ∷ 101 ∷ 98 ∷ 117 ∷ 115 ∷ 121 ∷ 59 ∷ 102 ∷ 98 ∷ 116 ∷ 121 ∷ 112 ∷ 101 ∷ 61 ∷ 102 ∷ 114 ∷ 101 ∷ 101 ∷ 58 ∷ 49 ∷ 57 ∷ 57 ∷ 55 ∷ 48 ∷ 51 ∷ 48 ∷ 56 ∷ 116 ∷ 49 ∷ 54 ∷ 48 ∷ 48 ∷ 48 ∷ 48 ∷ 122 ∷ 47 ∷ 112 ∷ 116 ∷ 51 ∷ 104 ∷ []

-- FBTYPE twice
abbrev twice : List ℕ
twice = 70 ∷ 82 ∷ 69 ∷ 69 ∷ 66 ∷ 85 ∷ 83 ∷ 89 ∷ 59 ∷ 70 ∷ 66 ∷ 84 ∷ 89 ∷ 80 ∷ 69 ∷ 61 ∷ 70 ∷ 82 ∷ 69 ∷ 69 ∷ 59 ∷ 70 ∷ 66 ∷ 84 ∷ 89 ∷ 80 ∷ 69 ∷ 61 ∷ 70 ∷ 82 ∷ 69 ∷ 69 ∷ 58 ∷ 49 ∷ 57 ∷ 57 ∷ 55 ∷ 48 ∷ 51 ∷ 48 ∷ 56 ∷ 84 ∷ 49 ∷ 54 ∷ 48 ∷ 48 ∷ 48 ∷ 48 ∷ 90 ∷ 47 ∷ 80 ∷ 84 ∷ 51 ∷ 72 ∷ []

-- FBTYPE with quotes
abbrev quoted : List ℕ
quoted = 70 ∷ 82 ∷ 69 ∷ 69 ∷ 66 ∷ 85 ∷ 83 ∷ 89 ∷ 59 ∷ 70 ∷ 66 ∷ 84 ∷ 89 ∷ 80 ∷ 69 ∷ 61 ∷ 34 ∷ 70 ∷ 82 ∷ 69 ∷ 69 ∷ 34 ∷ 58 ∷ 49 ∷ 57 ∷ 57 ∷ 55 ∷ 48 ∷ 51 ∷ 48 ∷ 56 ∷ 84 ∷ 49 ∷ 54 ∷ 48 ∷ 48 ∷ 48 ∷ 48 ∷ 90 ∷ 47 ∷ 80 ∷ 84 ∷ 51 ∷ 72 ∷ []

-- FBTYPE with two values
abbrev several : List ℕ
several = 70 ∷ 82 ∷ 69 ∷ 69 ∷ 66 ∷ 85 ∷ 83 ∷ 89 ∷ 59 ∷ 70 ∷ 66 ∷ 84 ∷ 89 ∷ 80 ∷ 69 ∷ 61 ∷ 70 ∷ 82 ∷ 69 ∷ 69 ∷ 44 ∷ 66 ∷ 85 ∷ 83 ∷ 89 ∷ 58 ∷ 49 ∷ 57 ∷ 57 ∷ 55 ∷ 48 ∷ 51 ∷ 48 ∷ 56 ∷ 84 ∷ 49 ∷ 54 ∷ 48 ∷ 48 ∷ 48 ∷ 48 ∷ 90 ∷ 47 ∷ 80 ∷ 84 ∷ 51 ∷ 72 ∷ []

-- separators within quotes, a character of two bytes, an empty value
abbrev kept : List ℕ
kept = 70 ∷ 82 ∷ 69 ∷ 69 ∷ 66 ∷ 85 ∷ 83 ∷ 89 ∷ 59 ∷ 88 ∷ 45 ∷ 65 ∷ 61 ∷ 34 ∷ 97 ∷ 59 ∷ 98 ∷ 58 ∷ 99 ∷ 44 ∷ 100 ∷ 34 ∷ 44 ∷ 195 ∷ 169 ∷ 59 ∷ 66 ∷ 61 ∷ 58 ∷ 49 ∷ 57 ∷ 57 ∷ 55 ∷ 48 ∷ 51 ∷ 48 ∷ 56 ∷ 84 ∷ 49 ∷ 54 ∷ 48 ∷ 48 ∷ 48 ∷ 48 ∷ 90 ∷ 47 ∷ 80 ∷ 84 ∷ 51 ∷ 72 ∷ []

-- a quote inside a text
abbrev inside : List ℕ
inside = 70 ∷ 82 ∷ 69 ∷ 69 ∷ 66 ∷ 85 ∷ 83 ∷ 89 ∷ 59 ∷ 65 ∷ 61 ∷ 97 ∷ 34 ∷ 98 ∷ 34 ∷ 58 ∷ 49 ∷ 57 ∷ 57 ∷ 55 ∷ 48 ∷ 51 ∷ 48 ∷ 56 ∷ 84 ∷ 49 ∷ 54 ∷ 48 ∷ 48 ∷ 48 ∷ 48 ∷ 90 ∷ 47 ∷ 80 ∷ 84 ∷ 51 ∷ 72 ∷ []

-- a quote that nothing closes
abbrev unclosed : List ℕ
unclosed = 70 ∷ 82 ∷ 69 ∷ 69 ∷ 66 ∷ 85 ∷ 83 ∷ 89 ∷ 59 ∷ 65 ∷ 61 ∷ 34 ∷ 98 ∷ 58 ∷ 49 ∷ 57 ∷ 57 ∷ 55 ∷ 48 ∷ 51 ∷ 48 ∷ 56 ∷ 84 ∷ 49 ∷ 54 ∷ 48 ∷ 48 ∷ 48 ∷ 48 ∷ 90 ∷ 47 ∷ 80 ∷ 84 ∷ 51 ∷ 72 ∷ []

-- a surrogate
abbrev surrogate : List ℕ
surrogate = 70 ∷ 82 ∷ 69 ∷ 69 ∷ 66 ∷ 85 ∷ 83 ∷ 89 ∷ 59 ∷ 65 ∷ 61 ∷ 237 ∷ 160 ∷ 128 ∷ 58 ∷ 49 ∷ 57 ∷ 57 ∷ 55 ∷ 48 ∷ 51 ∷ 48 ∷ 56 ∷ 84 ∷ 49 ∷ 54 ∷ 48 ∷ 48 ∷ 48 ∷ 48 ∷ 90 ∷ 47 ∷ 80 ∷ 84 ∷ 51 ∷ 72 ∷ []

-- an overlong form
abbrev overlong : List ℕ
overlong = 70 ∷ 82 ∷ 69 ∷ 69 ∷ 66 ∷ 85 ∷ 83 ∷ 89 ∷ 59 ∷ 65 ∷ 61 ∷ 192 ∷ 175 ∷ 58 ∷ 49 ∷ 57 ∷ 57 ∷ 55 ∷ 48 ∷ 51 ∷ 48 ∷ 56 ∷ 84 ∷ 49 ∷ 54 ∷ 48 ∷ 48 ∷ 48 ∷ 48 ∷ 90 ∷ 47 ∷ 80 ∷ 84 ∷ 51 ∷ 72 ∷ []

-- the name alone
abbrev bare : List ℕ
bare = 70 ∷ 82 ∷ 69 ∷ 69 ∷ 66 ∷ 85 ∷ 83 ∷ 89 ∷ []

-- a longer name
abbrev longer : List ℕ
longer = 70 ∷ 82 ∷ 69 ∷ 69 ∷ 66 ∷ 85 ∷ 83 ∷ 89 ∷ 88 ∷ 58 ∷ 49 ∷ []

-- the name, and then a byte of no name
abbrev other : List ℕ
other = 70 ∷ 82 ∷ 69 ∷ 69 ∷ 66 ∷ 85 ∷ 83 ∷ 89 ∷ 95 ∷ 88 ∷ 58 ∷ 49 ∷ []

all_told :
    map told (busy ∷ free ∷ small ∷ twice ∷ quoted ∷ several ∷ kept ∷ inside ∷ unclosed ∷ surrogate ∷ overlong ∷ bare ∷ longer ∷ other ∷ [])
    ≡ (true ∷ true ∷ false ∷ [])
    ∷ (true ∷ true ∷ true ∷ [])
    ∷ (true ∷ true ∷ true ∷ [])
    ∷ (true ∷ false ∷ true ∷ [])
    ∷ (true ∷ false ∷ false ∷ [])
    ∷ (true ∷ false ∷ false ∷ [])
    ∷ (true ∷ true ∷ false ∷ [])
    ∷ (true ∷ false ∷ false ∷ [])
    ∷ (true ∷ false ∷ false ∷ [])
    ∷ (true ∷ false ∷ false ∷ [])
    ∷ (true ∷ false ∷ false ∷ [])
    ∷ (true ∷ false ∷ false ∷ [])
    ∷ (false ∷ false ∷ false ∷ [])
    ∷ (true ∷ false ∷ false ∷ [])
    ∷ []
unfolding all_of any_of count_of until_byte parts capital date time date_time spells leading after counted_from then_maybe dur_second dur_minute dur_hour dur_time dur_date dur_week dur_unsigned dur_value period_explicit period_start period utf8_2 starts_three utf8_3 starts_four utf8_4 non_us_ascii first_of characters_from qsafe_char safe_char paramtext quoted_string param_value parts_in until_in after_in param_values param is_fbtype fbtypeparam other_param one_fbparam fbparam params_in named fbvalue freebusy is_freebusy says_free is_free
all_told = refl
