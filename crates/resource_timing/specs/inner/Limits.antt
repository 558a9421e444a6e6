-- What the code holds of durations: those whose total is below 2^53; any other is refused, and is not worked out. Assumes nothing.
use Rattle.std.specs.Prelude.{ℕ, ◌^◌, ◌≤◌, cond, ltb, Option, None, Some, Result, Ok, Err}
use Rattle.std.specs.Float.{binary64}
use Rattle.std.specs.Float.Ieee.{mul}
use Rattle.loops.specs.Lists.{option}
use Rattle.rounding.specs.inner.Limited.{limited, too_large}
use Rattle.rounding.specs.declared.TooLarge.{TooLarge}
use Rattle.resource_timing.specs.declared.ActivityDuration.{ActivityDuration}
use Rattle.resource_timing.specs.declared.ResourceTiming.{ResourceTiming}
use Rattle.resource_timing.specs.declared.ResourceTiming.TheVariants.{Speed, Duration}
use Rattle.resource_timing.specs.declared.Piece.{Piece}
use Rattle.resource_timing.specs.declared.Piece.TheVariants.{Whole, InPart}
use Rattle.resource_timing.specs.declared.Timed.{Timed}
use Rattle.part_share.specs.inner.Within.{share_within}
use Rattle.resource_timing.specs.Durations.{TimedSoFar, total_ms, in_part, at_speed}

-- a duration, or word that it is refused
abbrev pub Derived : Type 0
Derived = Result ActivityDuration TooLarge

-- the derived time is refused where it is 2^53 or more, or not finite
unfoldable pub within : Option ActivityDuration → Derived
within None = too_large
within (Some d) = cond (ltb (total_ms d) (2 ^ 53)) (Ok d) too_large

abbrev pub standing : Option ActivityDuration → Option Derived
standing None = None
standing (Some d) = Some (within (Some d))

abbrev pub timed_of : TimedSoFar → Timed
timed_of f = record { speed = f.speed; fixed = standing f.fixed }

-- ---- what the functions make of any value

-- the total, where it is below 2^53
unfoldable pub time_of : Derived → Result ℕ TooLarge
time_of (Ok d) = limited (Some (total_ms d))
time_of (Err e) = too_large

-- the duration of greater total, the first of two equal ones
abbrev pub longer_by : Result ℕ TooLarge → Result ℕ TooLarge → Derived → Derived → Derived
longer_by (Err e) t f d = too_large
longer_by (Ok m) (Err e) f d = too_large
longer_by (Ok m) (Ok n) f d = cond (ltb m n) d f

unfoldable pub longer_of : Derived → Derived → Derived
longer_of f d = longer_by (time_of f) (time_of d) f d

abbrev pub fixed_with : Option Derived → Derived → Option Derived
fixed_with None d = Some d
fixed_with (Some f) d = Some (longer_of f d)

-- a resource's own duration for the activity, as the piece has it; none where its share is not worked out
abbrev pub fixed_in : Piece → ActivityDuration → Option ActivityDuration
fixed_in Whole d = Some d
fixed_in (InPart p) d = option (share_within d.process_ms p.work_ms p.whole_ms) None (λ n. Some (in_part d n p))

-- one resource more that the piece runs on, by the activity's timing there
unfoldable pub timed_with : Timed → Piece → ResourceTiming → Timed
timed_with t piece (Speed s) = record { speed = mul binary64 t.speed s; fixed = t.fixed }
timed_with t piece (Duration d) = record { speed = t.speed; fixed = fixed_with t.fixed (within (fixed_in piece d)) }

abbrev pub fixed_or : Option Derived → Derived → Derived
fixed_or None d = d
fixed_or (Some f) d = f

-- the fixed duration where there is one, else the base at the product of the speeds
abbrev pub derived_of : Timed → ActivityDuration → Derived
derived_of t base = fixed_or t.fixed (within (at_speed base t.speed))

-- amounts as the rows of a sheet have them: shares of these are worked out
abbrev pub Amount : ℕ → Type 0
Amount n = n ≤ 4000000000000

abbrev pub PieceAmounts : Piece → Type 0
PieceAmounts Whole = Unit
PieceAmounts (InPart p) = Amount p.work_ms × Amount p.whole_ms

abbrev pub TimingAmounts : ResourceTiming → Type 0
TimingAmounts (Speed s) = Unit
TimingAmounts (Duration d) = Amount d.process_ms
