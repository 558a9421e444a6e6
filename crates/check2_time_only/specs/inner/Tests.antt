-- The tests of a time-only span: against its activity's windows, and against releases. Assumes nothing.
use Rattle.std.specs.Prelude.{ℕ, Bool, false, cond, not, Option, None, List, [], ◌∷◌, ℤ, pos}
use Rattle.std.specs.Int.Signed.{lt_z}
use Rattle.calendar.specs.Clock.{Clock}
use Rattle.calendar.specs.Calendar.{Calendar, interval_fits, joint_working}
use Rattle.calendar.specs.Amount.{joint_available_ms}
use Rattle.resource_timing.specs.Durations.{total_ms}
use Rattle.loops.specs.Lists.{option}
use Rattle.rows.specs.Cells.{num}
use Rattle.sheet.specs.Places.{task_place}
use Rattle.model.specs.Sheet.{sheet}
use Rattle.model.specs.Activity.{Activity}
use Rattle.model.specs.Resource.{windows}
use Rattle.model.specs.Schedule.{TimeOnlySpan}
use Rattle.model.specs.inner.Records.{maybe_at}

-- the windows of the activity of row a
abbrev pub own_windows : List ℤ → ℕ → Calendar ℤ
own_windows rows a = windows (sheet rows) 16 (num rows a 1)

module _ {T : Type 0} (K : Clock T) (span : TimeOnlySpan T) (a : Activity T) (own : Calendar T) where
  -- `worked < work`
  abbrev pub too_short : Bool
  too_short =
      lt_z (cond a.resumable (pos (joint_available_ms K (own ∷ []) span.start span.end)) (K.minus span.end span.start))
      (pos (total_ms a.duration))

  -- `!in_own`
  abbrev pub outside_own : Bool
  outside_own = not (cond a.resumable (joint_working K (own ∷ []) span.start) (interval_fits K own span.start span.end))

module _ (rows : List ℤ) where
  -- the span of row k starts before a release
  unfoldable pub starts_before : ℕ → Option ℤ → Bool
  starts_before k x = option x false (λ y. lt_z (pos (num rows k 3)) y)

  -- the release of the task that the activity of row a is of
  unfoldable pub release_of_task : ℕ → Option ℤ
  release_of_task a = option (task_place rows (num rows a 2)) None (λ t. maybe_at rows t 3)
