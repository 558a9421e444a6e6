-- A date and time in sixteen bytes, as 20240229T235959Z: RFC 5545, 3.3.4, 3.3.5 and 3.3.12, the form with UTC time. Bytes are given by their numbers.
-- Assumes nothing.
use Rattle.std.specs.Prelude.{ℕ, ◌+◌, ◌*◌, ◌-◌, Bool, ◌&&◌, List, [], ◌∷◌, ltb, leb, eqb, length, get_or, take, drop, Option}
use Rattle.loops.specs.Lists.{all_of}
use Rattle.loops.specs.Search.{some_if}
use Rattle.text_fields.specs.Spelling.{is_digit}
use Rattle.letters.specs.Letters.{is_letter, LETTER_T, LETTER_Z}
use Rattle.dates.specs.Calendar.{month_days, day_number}

-- the n bytes from place i on
abbrev pub field : ℕ → ℕ → List ℕ → List ℕ
field i n s = take n (drop i s)

-- ---- the grammar: all that it asks of the fields is that they are digits

-- date = 4DIGIT 2DIGIT 2DIGIT
unfoldable pub date : List ℕ → Bool
date s = all_of is_digit (field 0 8 s)

-- time = 2DIGIT 2DIGIT 2DIGIT "Z"
unfoldable pub time : List ℕ → Bool
time s = all_of is_digit (field 9 6 s) && is_letter LETTER_Z (get_or s 15 0)

-- date-time = date "T" time
unfoldable pub date_time : List ℕ → Bool
date_time s = eqb (length s) 16 && (date s && (is_letter LETTER_T (get_or s 8 0) && time s))

-- ---- the fields

-- the number that digits spell, read on from n
unfoldable pub digits_on : ℕ → List ℕ → ℕ
digits_on n [] = n
digits_on n (x ∷ xs) = digits_on (n * 10 + (x - 48)) xs

abbrev pub year : List ℕ → ℕ
year s = digits_on 0 (field 0 4 s)

abbrev pub month : List ℕ → ℕ
month s = digits_on 0 (field 4 2 s)

abbrev pub day : List ℕ → ℕ
day s = digits_on 0 (field 6 2 s)

abbrev pub hour : List ℕ → ℕ
hour s = digits_on 0 (field 9 2 s)

abbrev pub minute : List ℕ → ℕ
minute s = digits_on 0 (field 11 2 s)

abbrev pub second : List ℕ → ℕ
second s = digits_on 0 (field 13 2 s)

-- there is such a day, and such a second of a day
abbrev pub in_calendar : ℕ → ℕ → ℕ → Bool
in_calendar y m d = ltb 0 d && leb d (month_days y m)

abbrev pub on_clock : ℕ → ℕ → ℕ → Bool
on_clock h m s = ltb h 24 && (ltb m 60 && ltb s 60)

unfoldable pub exists : List ℕ → Bool
exists s = in_calendar (year s) (month s) (day s) && on_clock (hour s) (minute s) (second s)

-- ---- the instant

-- the milliseconds from 1 January of the year 0, all days having 86,400 seconds
unfoldable pub milliseconds : List ℕ → ℕ
milliseconds s = (((day_number (year s) (month s) (day s) * 24 + hour s) * 60 + minute s) * 60 + second s) * 1000

-- those of 1 January 1970, before which there are 719,528 days
abbrev pub epoch : ℕ
epoch = 719_528 * 86_400_000

-- instants count from there; the last one that a sheet takes
abbrev pub last_instant : ℕ
last_instant = 4_000_000_000_000

abbrev pub in_range : ℕ → Bool
in_range t = leb epoch t && leb t (epoch + last_instant)

-- the instant of a date and time, where there is one in the range
unfoldable pub instant : List ℕ → Option ℕ
instant s = some_if (date_time s && (exists s && in_range (milliseconds s))) (milliseconds s - epoch)
