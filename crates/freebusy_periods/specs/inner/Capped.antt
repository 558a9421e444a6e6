-- Seconds as the code counts them: no more than 4,000,000,001, which lead out of the range of instants from each of them. Assumes nothing.
use Rattle.std.specs.Prelude.{ℕ, ◌+◌, Bool, cond, ◌||◌, List, [], ◌∷◌, ltb, Option, None, Some}
use Rattle.loops.specs.Lists.{option, is_some}
use Rattle.loops.specs.Search.{or_else}
use Rattle.letters.specs.Letters.{is_letter}
use Rattle.dates.specs.DateTime.{date_time}
use Rattle.freebusy_periods.specs.Duration.{Counted, counts, dur_second, dur_minute, dur_hour, dur_time, dur_date, dur_week, dur_value}
use Rattle.freebusy_periods.specs.declared.Amount.{Amount}

unfoldable pub at_most : ℕ → ℕ
at_most n = cond (ltb 4_000_000_001 n) 4_000_000_001 n

-- a number with its unit, so capped; and as the code has it
abbrev pub capped_count : Option Counted → Option Counted
capped_count None = None
capped_count (Some k) = Some (counts (at_most k.count) k.unit k.rest)

abbrev pub counted_by : Amount → Counted
counted_by a = counts a.count a.unit a.rest.now

-- seconds, so capped
unfoldable pub capped : Option ℕ → Option ℕ
capped None = None
capped (Some n) = Some (at_most n)

-- n seconds more
unfoldable pub added : ℕ → Option ℕ → Option ℕ
added n o = option o None (λ m. Some (n + m))

-- what follows the letter c, where it comes first
unfoldable pub after_letter : ℕ → List ℕ → Option (List ℕ)
after_letter c [] = None
after_letter c (x ∷ xs) = cond (is_letter c x) (Some xs) None

-- dur-hour / dur-minute / dur-second
unfoldable pub after_t : List ℕ → Option ℕ
after_t s = or_else (dur_hour s) (or_else (dur_minute s) (dur_second s))

-- dur-date / dur-time / dur-week
unfoldable pub after_p : List ℕ → Option ℕ
after_p s = or_else (dur_date s) (or_else (dur_time s) (dur_week s))

-- what may follow the slash of a period
unfoldable pub ends_period : List ℕ → Bool
ends_period e = date_time e || is_some (dur_value e)
