-- Durations, computed: PT1H30M, and PT1H30S, which is none. Assumes nothing.
use mathlib.Core.List.{[], ◌∷◌}
use Rattle.std.specs.Prelude.{None, Some}
use mathlib.Core.Path.{◌≡◌, refl}
use Rattle.letters.specs.Letters.{capital}
use Rattle.freebusy_periods.specs.Duration.{counted_from, then_maybe, dur_second, dur_minute, dur_hour, dur_time, dur_date, dur_week, dur_unsigned, dur_value}

ninety_minutes : dur_value (80 ∷ 84 ∷ 49 ∷ 72 ∷ 51 ∷ 48 ∷ 77 ∷ []) ≡ Some 5400
unfolding capital counted_from then_maybe dur_second dur_minute dur_hour dur_time dur_date dur_week dur_unsigned dur_value
ninety_minutes = refl

seconds_after_hours : dur_value (80 ∷ 84 ∷ 49 ∷ 72 ∷ 51 ∷ 48 ∷ 83 ∷ []) ≡ None
unfolding capital counted_from then_maybe dur_second dur_minute dur_hour dur_time dur_date dur_week dur_unsigned dur_value
seconds_after_hours = refl

-- +P2DT1S
two_days_one_second : dur_value (43 ∷ 80 ∷ 50 ∷ 68 ∷ 84 ∷ 49 ∷ 83 ∷ []) ≡ Some 172801
unfolding capital counted_from then_maybe dur_second dur_minute dur_hour dur_time dur_date dur_week dur_unsigned dur_value
two_days_one_second = refl

-- P1W stands alone
week_and_day : dur_value (80 ∷ 49 ∷ 87 ∷ 49 ∷ 68 ∷ []) ≡ None
unfolding capital counted_from then_maybe dur_second dur_minute dur_hour dur_time dur_date dur_week dur_unsigned dur_value
week_and_day = refl
