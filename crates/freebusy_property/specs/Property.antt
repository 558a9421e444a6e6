-- The line FREEBUSY: RFC 5545, 3.8.2.6 with 3.1, 3.2 and 3.2.9, one definition for each production. What a production repeats between separators is a
-- list of parts, each of which is one. A quote that opens or closes no quoted-string stands in a part that is no param, so that such a line is none
-- whichever way it is parted: freebusy_grammar has the grammar as the RFC writes it, and that these are exactly its lines. Assumes nothing.
use Rattle.std.specs.Prelude.{ℕ, Bool, false, ◌&&◌, ◌||◌, not, List, [], ◌∷◌, ltb}
use Rattle.loops.specs.Lists.{all_of, any_of, count_of, option}
use Rattle.text_fields.specs.Parts.{until_byte, parts}
use Rattle.freebusy_lines.specs.Bytes.{COMMA, COLON, SEMICOLON, EQUALS, spells, is_name_byte, iana_token, leading, after}
use Rattle.freebusy_characters.specs.ParamValue.{param_value}
use Rattle.freebusy_periods.specs.Period.{period}
use Rattle.freebusy_property.specs.Quotes.{unquoted_parts, until_unquoted, after_unquoted}

-- the words FREEBUSY, FBTYPE and FREE
abbrev pub FREEBUSY : List ℕ
FREEBUSY = 70 ∷ 82 ∷ 69 ∷ 69 ∷ 66 ∷ 85 ∷ 83 ∷ 89 ∷ []

abbrev pub FBTYPE : List ℕ
FBTYPE = 70 ∷ 66 ∷ 84 ∷ 89 ∷ 80 ∷ 69 ∷ []

abbrev pub FREE : List ℕ
FREE = 70 ∷ 82 ∷ 69 ∷ 69 ∷ []

-- ---- a parameter

-- param-name = iana-token / x-name: what stands before the equals sign
abbrev pub param_name : List ℕ → List ℕ
param_name p = until_byte EQUALS p

-- param-value *("," param-value)
unfoldable pub param_values : List ℕ → Bool
param_values v = all_of param_value (unquoted_parts COMMA v)

-- param = param-name "=" param-value *("," param-value)
unfoldable pub param : List ℕ → Bool
param p = iana_token (param_name p) && option (after EQUALS p) false param_values

-- the parameter FBTYPE, whatever its value
unfoldable pub is_fbtype : List ℕ → Bool
is_fbtype p = spells FBTYPE (param_name p)

-- fbtypeparam = "FBTYPE" "=" ("FREE" / "BUSY" / "BUSY-UNAVAILABLE" / "BUSY-TENTATIVE" / x-name / iana-token): each of these is a token
unfoldable pub fbtypeparam : List ℕ → Bool
fbtypeparam p = is_fbtype p && option (after EQUALS p) false iana_token

-- other-param = iana-param / x-param: a param of another name
unfoldable pub other_param : List ℕ → Bool
other_param p = not (is_fbtype p) && param p

-- fbparam = *( (";" fbtypeparam) / (";" other-param) ), fbtypeparam once at most
unfoldable pub one_fbparam : List ℕ → Bool
one_fbparam p = fbtypeparam p || other_param p

unfoldable pub fbparam : List (List ℕ) → Bool
fbparam ps = all_of one_fbparam ps && ltb (count_of is_fbtype ps) 2

-- ---- the line

-- Before its first colon outside quotes a line has its name and, after semicolons outside quotes, its parameters.
abbrev pub head_of : List ℕ → List ℕ
head_of l = until_unquoted COLON l

unfoldable pub params_in : List ℕ → List (List ℕ)
params_in head = option (after_unquoted SEMICOLON head) [] (unquoted_parts SEMICOLON)

-- "FREEBUSY" fbparam
unfoldable pub named : List ℕ → Bool
named head = spells FREEBUSY (until_unquoted SEMICOLON head) && fbparam (params_in head)

-- fbvalue = period *("," period)
unfoldable pub fbvalue : List ℕ → Bool
fbvalue v = all_of period (parts COMMA v)

-- freebusy = "FREEBUSY" fbparam ":" fbvalue
unfoldable pub freebusy : List ℕ → Bool
freebusy l = named (head_of l) && option (after_unquoted COLON l) false fbvalue

-- ---- what a line says

-- whether it has the name: its leading letters, digits and hyphens
unfoldable pub is_freebusy : List ℕ → Bool
is_freebusy l = spells FREEBUSY (leading is_name_byte l)

-- FBTYPE=FREE
unfoldable pub says_free : List ℕ → Bool
says_free p = is_fbtype p && option (after EQUALS p) false (spells FREE)

unfoldable pub is_free : List ℕ → Bool
is_free l = any_of says_free (params_in (head_of l))

-- what follows its first colon outside quotes; nothing where there is none
unfoldable pub value_of : List ℕ → List ℕ
value_of l = option (after_unquoted COLON l) [] (λ v. v)

-- its periods
unfoldable pub periods_of : List ℕ → List (List ℕ)
periods_of l = parts COMMA (value_of l)
