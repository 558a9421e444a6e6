-- The calendar: leap years, the days of a month, the days before a date. Assumes nothing.
use Rattle.std.specs.Prelude.{ℕ, zero, suc, ◌+◌, ◌-◌, ◌%◌, Bool, cond, ◌&&◌, ◌||◌, not, [], ◌∷◌, eqb, get_or}

-- every fourth year, but of the hundreds only every fourth
abbrev pub is_leap : ℕ → Bool
is_leap y = eqb (y % 4) 0 && (not (eqb (y % 100) 0) || eqb (y % 400) 0)

abbrev pub year_days : ℕ → ℕ
year_days y = cond (is_leap y) 366 365

-- the days of the months 1 to 12; no other month has any
unfoldable pub month_days : ℕ → ℕ → ℕ
month_days y m = get_or (0 ∷ 31 ∷ cond (is_leap y) 29 28 ∷ 31 ∷ 30 ∷ 31 ∷ 30 ∷ 31 ∷ 31 ∷ 30 ∷ 31 ∷ 30 ∷ 31 ∷ []) m 0

-- the days of the years 0 to y - 1, and of the months 0 to m - 1 of the year y
unfoldable pub years_days : ℕ → ℕ
years_days zero = 0
years_days (suc y) = years_days y + year_days y

unfoldable pub months_days : ℕ → ℕ → ℕ
months_days y zero = 0
months_days y (suc m) = months_days y m + month_days y m

-- the days from 1 January of the year 0 to a date
abbrev pub day_number : ℕ → ℕ → ℕ → ℕ
day_number y m d = years_days y + months_days y m + (d - 1)
