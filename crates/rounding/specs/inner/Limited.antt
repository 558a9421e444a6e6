-- A derived time as the code holds it. Assumes nothing.
use Rattle.std.specs.Prelude.{ℕ, ◌^◌, cond, nat_lt, Option, None, Some, Result, Ok, Err}
use Rattle.rounding.specs.declared.TooLarge.{TooLarge}

-- a time that is refused, or a duration of which it is a part
abbrev pub too_large : {A : Type 0} → Result A TooLarge
too_large = Err (record {})

-- a derived time is refused where it is 2^53 or more, or not finite
unfoldable pub limited : Option ℕ → Result ℕ TooLarge
limited None = too_large
limited (Some n) = cond (nat_lt n (2 ^ 53)) (Ok n) too_large
