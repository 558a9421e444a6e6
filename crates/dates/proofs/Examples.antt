-- The calendar, computed. Assumes nothing.
use mathlib.Core.Path.{◌≡◌, refl}
use Rattle.dates.specs.Calendar.{month_days, years_days}

-- the days before 1970, which `epoch` writes out
before_1970 : years_days 1970 ≡ 719528
unfolding years_days
before_1970 = refl

february : month_days 2000 2 ≡ 29
unfolding month_days
february = refl

february_1900 : month_days 1900 2 ≡ 28
unfolding month_days
february_1900 = refl
