-- A duration: RFC 5545, 3.3.6, one definition for each of its productions, under its name. Each reads all that is left of the period, and gives
-- seconds, of any size; none where it is no such production. Assumes nothing.
use Rattle.std.specs.Prelude.{ℕ, ◌+◌, ◌*◌, ◌-◌, Bool, true, false, cond, ◌||◌, List, [], ◌∷◌, eqb, Option, None, Some}
use Rattle.loops.specs.Lists.{option}
use Rattle.loops.specs.Search.{or_else}
use Rattle.text_fields.specs.Spelling.{is_digit}
use Rattle.letters.specs.Letters.{capital, is_letter, LETTER_D, LETTER_H, LETTER_M, LETTER_P, LETTER_S, LETTER_T, LETTER_W}
use Rattle.freebusy_lines.specs.Bytes.{PLUS, HYPHEN}

-- 1*DIGIT and a letter: the number that the digits spell, the letter as a capital, and what follows it
pub record Counted : Type 0 where
  pub count : ℕ
  pub unit : ℕ
  pub rest : List ℕ

abbrev pub counts : ℕ → ℕ → List ℕ → Counted
counts n u r = record { count = n; unit = u; rest = r }

-- read on from n, where `any` says whether there was a digit before
unfoldable pub counted_from : Bool → ℕ → List ℕ → Option Counted
counted_from any n [] = None
counted_from any n (x ∷ xs) = cond (is_digit x) (counted_from true (n * 10 + (x - 48)) xs) (cond any (Some (counts n (capital x) xs)) None)

abbrev pub counted : List ℕ → Option Counted
counted s = counted_from false 0 s

-- after n seconds nothing follows, or what `next` reads
unfoldable pub then_maybe : (List ℕ → Option ℕ) → ℕ → List ℕ → Option ℕ
then_maybe next n [] = Some n
then_maybe next n (x ∷ xs) = option (next (x ∷ xs)) None (λ m. Some (n + m))

-- 1*DIGIT and the letter c, which stands for so many seconds, and then maybe what `next` reads
abbrev pub amount : ℕ → ℕ → (List ℕ → Option ℕ) → List ℕ → Option ℕ
amount c seconds next s = option (counted s) None (λ k. cond (eqb k.unit c) (then_maybe next (k.count * seconds) k.rest) None)

abbrev pub nothing_more : List ℕ → Option ℕ
nothing_more s = None

-- dur-second = 1*DIGIT "S"
unfoldable pub dur_second : List ℕ → Option ℕ
dur_second s = amount LETTER_S 1 nothing_more s

-- dur-minute = 1*DIGIT "M" [dur-second]
unfoldable pub dur_minute : List ℕ → Option ℕ
dur_minute s = amount LETTER_M 60 dur_second s

-- dur-hour = 1*DIGIT "H" [dur-minute]
unfoldable pub dur_hour : List ℕ → Option ℕ
dur_hour s = amount LETTER_H 3_600 dur_minute s

-- dur-time = "T" (dur-hour / dur-minute / dur-second)
unfoldable pub dur_time : List ℕ → Option ℕ
dur_time [] = None
dur_time (x ∷ xs) = cond (is_letter LETTER_T x) (or_else (dur_hour xs) (or_else (dur_minute xs) (dur_second xs))) None

-- dur-day = 1*DIGIT "D", and then maybe what `next` reads
abbrev pub dur_day : (List ℕ → Option ℕ) → List ℕ → Option ℕ
dur_day next s = amount LETTER_D 86_400 next s

-- dur-date = dur-day [dur-time]
unfoldable pub dur_date : List ℕ → Option ℕ
dur_date s = dur_day dur_time s

-- dur-week = 1*DIGIT "W"
unfoldable pub dur_week : List ℕ → Option ℕ
dur_week s = amount LETTER_W 604_800 nothing_more s

-- "P" (dur-date / dur-time / dur-week)
unfoldable pub dur_unsigned : List ℕ → Option ℕ
dur_unsigned [] = None
dur_unsigned (x ∷ xs) = cond (is_letter LETTER_P x) (or_else (dur_date xs) (or_else (dur_time xs) (dur_week xs))) None

-- dur-value = (["+"] / "-") "P" (dur-date / dur-time / dur-week): its seconds, and whether it has the minus
abbrev pub is_sign : ℕ → Bool
is_sign x = eqb x PLUS || eqb x HYPHEN

unfoldable pub dur_value : List ℕ → Option ℕ
dur_value [] = None
dur_value (x ∷ xs) = cond (is_sign x) (dur_unsigned xs) (dur_unsigned (x ∷ xs))

abbrev pub is_back : List ℕ → Bool
is_back [] = false
is_back (x ∷ xs) = eqb x HYPHEN
