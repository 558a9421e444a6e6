-- The time of a piece on the resources that it runs on, as activity.rs has it, with exact sums. Assumes nothing.
use Rattle.std.specs.Prelude.{ℕ, ◌+◌, false, cond, ltb, ℤ, pos, Float, Option, None, Some}
use mathlib.Core.List.{List, foldl}
use Rattle.std.specs.Int.Signed.{lt_z}
use Rattle.std.specs.Float.{fin, binary64}
use Rattle.std.specs.Float.Ieee.{mul, eq}
use Rattle.loops.specs.Lists.{option}
use Rattle.loops.specs.Search.{or_else}
use Rattle.rounding.specs.Rounding.{divided_by}
use Rattle.part_share.specs.Share.{share_of}
use Rattle.resource_timing.specs.declared.ActivityDuration.{ActivityDuration}
use Rattle.resource_timing.specs.declared.ResourceTiming.{ResourceTiming}
use Rattle.resource_timing.specs.declared.ResourceTiming.TheVariants.{Speed, Duration}
use Rattle.resource_timing.specs.declared.PartTimes.{PartTimes}
use Rattle.resource_timing.specs.declared.Piece.{Piece}
use Rattle.resource_timing.specs.declared.Piece.TheVariants.{Whole, InPart}

-- `ActivityDuration::total_ms`
abbrev pub total_ms : ActivityDuration → ℕ
total_ms d = d.setup_ms + d.process_ms + d.teardown_ms

-- ---- `Activity::part`

-- a part by its index and work, the activity's processing and the split's overhead, which the parts after the first have
abbrev pub part_of : ℤ → ℕ → ℕ → ℕ → PartTimes
part_of index work whole overhead = record { work_ms = work; whole_ms = whole; overhead_ms = cond (lt_z (pos 0) index) overhead 0 }

-- a duration with another processing time, and with the part's overhead in its teardown
abbrev pub in_part : ActivityDuration → ℕ → PartTimes → ActivityDuration
in_part d process p = record { setup_ms = d.setup_ms; process_ms = process; teardown_ms = d.teardown_ms + p.overhead_ms }

-- the activity's own duration, and a resource's, as the piece has them
abbrev pub piece_duration : Piece → ActivityDuration → ActivityDuration
piece_duration Whole d = d
piece_duration (InPart p) d = in_part d p.work_ms p

abbrev pub piece_fixed : Piece → ActivityDuration → ActivityDuration
piece_fixed Whole d = d
piece_fixed (InPart p) d = in_part d (share_of d.process_ms p.work_ms p.whole_ms) p

abbrev pub piece_timing : Piece → ResourceTiming → ResourceTiming
piece_timing piece (Speed s) = Speed s
piece_timing piece (Duration d) = Duration (piece_fixed piece d)

-- ---- `timed_duration`

-- 1.0
abbrev pub speed1 : Float
speed1 = fin false 1 (pos 0)

-- its variables `speed` and `fixed`
pub record TimedSoFar : Type 0 where
  pub speed : Float
  pub fixed : Option ActivityDuration

abbrev pub start : TimedSoFar
start = record { speed = speed1; fixed = None }

-- the greatest total, the earliest among equals
abbrev pub longest : Option ActivityDuration → ActivityDuration → ActivityDuration
longest None d = d
longest (Some f) d = cond (ltb (total_ms f) (total_ms d)) d f

-- one resource more, by its timing
abbrev pub timed_on : TimedSoFar → ResourceTiming → TimedSoFar
timed_on f (Speed s) = record { speed = mul binary64 f.speed s; fixed = f.fixed }
timed_on f (Duration d) = record { speed = f.speed; fixed = Some (longest f.fixed d) }

-- the base with its processing divided by a product of speeds; a product of 1.0 changes nothing; none where the quotient is not finite
unfoldable pub at_speed : ActivityDuration → Float → Option ActivityDuration
at_speed base speed =
    cond (eq speed speed1)
    (Some base)
    (option (divided_by base.process_ms speed) None λ n.
    Some (record { setup_ms = base.setup_ms; process_ms = n; teardown_ms = base.teardown_ms }))

-- what it returns: the fixed duration where there is one
abbrev pub timed : ActivityDuration → TimedSoFar → Option ActivityDuration
timed base f = or_else f.fixed (at_speed base f.speed)

-- the timings are those of the resources that the piece runs on, in booking order
unfoldable pub timed_duration : ActivityDuration → List ResourceTiming → Option ActivityDuration
timed_duration base timings = timed base (foldl timed_on start timings)
