-- Check 2: `check_time_only` of scheduler/feasibility.rs.
use Rattle.std.specs.Prelude.{ℕ, Bool, cond, not, ◌&&◌, List, [], ◌∷◌, ◌++◌, eqb, ℤ, pos}
use Rattle.std.specs.Prelude.{Option, None, Some}
use Rattle.std.specs.Int.Signed.{lt_z}
use Rattle.loops.specs.Lists.{given, any_of, option, is_some, is_empty, each}
use Rattle.loops.specs.Range.{collect}
use Rattle.calendar.specs.Clock.{Clock}
use Rattle.calendar.specs.Calendar.{Calendar, interval_fits, joint_working}
use Rattle.calendar.specs.Amount.{joint_available_ms}
use Rattle.findings.specs.declared.Violation.{Violation}
use Rattle.model.specs.Sheet.{Sheet}
use Rattle.model.specs.Task.{tasks, find_task}
use Rattle.model.specs.Activity.{Activity, find_activity, activities_of, requirements, activity_calendar}
use Rattle.resource_timing.specs.Durations.{total_ms}
use Rattle.model.specs.Schedule.{TimeOnlySpan, span_at, time_only_below, time_only, unknown_activity, duration_too_short, time_window_violation, early_start}

module _ {T : Type 0} (s : Sheet T) where
  -- `known`: the activity that the span names, if it is one of the span's task and holds no resource
  unfoldable pub known : TimeOnlySpan T → Option (Activity T)
  known span = option (find_activity s span.activity) None λ a.
      cond (is_empty (requirements s a.id) && eqb a.task span.task) (Some a) None

  -- `seen`: a known span among the earlier ones is of the activity
  unfoldable pub seen : List (TimeOnlySpan T) → ℕ → Bool
  seen earlier activity = any_of (λ x. eqb x.activity activity && is_some (known x)) earlier

module _ {T : Type 0} (K : Clock T) (s : Sheet T) where
  abbrev pub early_span : TimeOnlySpan T → Option T → List Violation
  early_span span None = []
  early_span span (Some release) = given (K.before span.start release) (early_start 2 span.activity)

  -- the first known span of its activity
  unfoldable pub check_first : TimeOnlySpan T → Activity T → List Violation
  check_first span a =
      let own : Calendar T = activity_calendar s a.id in
      let work : ℕ = total_ms a.duration in
      let worked : ℤ =
      cond a.resumable (pos (joint_available_ms K (own ∷ []) span.start span.end)) (K.minus span.end span.start) in
      -- The Rust asks whether `joint_work_end(.., start, 0)` is some: no work at all has an end exactly where its start is working time.
      let starts_in_work : Bool = joint_working K (own ∷ []) span.start in
      -- without windows `own` works always, so that needs no case
      let in_own : Bool = cond a.resumable starts_in_work (interval_fits K own span.start span.end) in
      given (lt_z worked (pos work)) (duration_too_short 2 span.activity)
      ++ given (not in_own) (time_window_violation 2 span.activity)
      ++ early_span span a.release
      ++ early_span span (option (find_task s a.task) None (λ t. t.release))

  -- a span, after the earlier spans
  unfoldable pub check_span : List (TimeOnlySpan T) → TimeOnlySpan T → List Violation
  check_span earlier span =
      option (known s span) (unknown_activity 2 span.activity ∷ []) λ a.
      cond (seen s earlier span.activity) (unknown_activity 2 span.activity ∷ []) (check_first span a)

  unfoldable pub check_span_at : ℕ → List Violation
  check_span_at k = each (check_span (time_only_below s k)) (span_at s k)

  -- an activity that holds no resource and has no span
  unfoldable pub check_unplaced : Activity T → List Violation
  check_unplaced a =
      given (is_empty (requirements s a.id) && not (seen s (time_only s) a.id)) (time_window_violation 2 a.id)

  unfoldable pub check_time_only : List Violation
  check_time_only = collect check_span_at s.count ++ each (λ t. each check_unplaced (activities_of s t.id)) (tasks s)
