-- Refusal 6: a booking whose derived time is not finite, or is 2^53 or more. Assumes nothing.
use Rattle.std.specs.Prelude.{ℕ, ◌^◌, Bool, true, false, not, List, ltb, ℤ, Option, None, Some}
use Rattle.loops.specs.Lists.{any_of, option}
use Rattle.loops.specs.Search.{first}
use Rattle.rows.specs.Cells.{row_count}
use Rattle.refusals.specs.Refusals.{refuse}
use Rattle.refusals.specs.declared.Reason.TheVariants.{Stretched}
use Rattle.refusals.specs.declared.Refusal.{Refusal}
use Rattle.resource_timing.specs.declared.ActivityDuration.{ActivityDuration}
use Rattle.resource_timing.specs.Durations.{total_ms}
use Rattle.model.specs.Sheet.{Sheet, sheet}
use Rattle.model.specs.Activity.{Activity, find_activity, duration_on}
use Rattle.model.specs.Schedule.{Assignment, assignment_at}
use Rattle.definition.specs.Pieces.{runs_on}

-- a derived time that is refused: it is not finite, or the exact setup + process + teardown so found is 2^53 or more
abbrev pub too_large : Option ActivityDuration → Bool
too_large None = true
too_large (Some d) = not (ltb (total_ms d) (2 ^ 53))

module _ {T : Type 0} (s : Sheet T) where
  -- the derived duration of a booking of an activity
  unfoldable pub derived : Assignment T → Activity T → Option ActivityDuration
  derived b a = duration_on s a b.part (runs_on s b)

  -- the booking is of a known activity, and its derived time is refused
  unfoldable pub is_too_large : Assignment T → Bool
  is_too_large b = option (find_activity s b.activity) false (λ a. too_large (derived b a))

-- ---- refusal 6: the first such booking

unfoldable pub time_fault : List ℤ → ℕ → Option Refusal
time_fault rows k = refuse (any_of (is_too_large (sheet rows)) (assignment_at (sheet rows) k)) Stretched k

unfoldable pub time_refusal : List ℤ → Option Refusal
time_refusal rows = first (time_fault rows) (row_count rows)
