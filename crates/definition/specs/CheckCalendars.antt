-- Check 6: `check_calendars` of scheduler/feasibility.rs.
use Rattle.std.specs.Prelude.{ℕ, Bool, cond, not, ◌||◌, List, [], ◌∷◌, ◌++◌, map, ltb}
use Rattle.std.specs.Prelude.{Option, None, Some}
use Rattle.loops.specs.Lists.{given, option, each}
use Rattle.calendar.specs.Clock.{Clock}
use Rattle.calendar.specs.Calendar.{Calendar, interval_fits, joint_working}
use Rattle.calendar.specs.Amount.{joint_available_ms}
use Rattle.findings.specs.declared.Violation.{Violation}
use Rattle.model.specs.Sheet.{Sheet}
use Rattle.model.specs.Resource.{find_resource, resource_calendar}
use Rattle.model.specs.Activity.{Activity, find_activity, activity_calendar, needed_ms}
use Rattle.model.specs.Schedule.{Assignment, assignments, resource_unavailable, time_window_violation}
use Rattle.definition.specs.Pieces.{assigned_with, runs_on}

module _ {T : Type 0} (K : Clock T) (s : Sheet T) where
  -- `calendars`: those of all resources of the piece, and the activity's own
  unfoldable pub piece_calendars : Assignment T → Activity T → List (Calendar T)
  piece_calendars a activity = map (λ r. resource_calendar s r) (assigned_with s a) ++ activity_calendar s activity.id ∷ []

  -- resumable work may pause: it starts in the joint working time, and that time within its span covers the work
  unfoldable pub check_resumable : Assignment T → Activity T → List Violation
  check_resumable a activity =
      let calendars : List (Calendar T) = piece_calendars a activity in
      let needed : ℕ = needed_ms s activity a (runs_on s a) in
      -- The Rust asks whether `joint_work_end(.., start, 0)` is some: no work at all has an end exactly where its start is working time.
      let starts_in_work : Bool = joint_working K calendars a.start in
      let worked : ℕ = joint_available_ms K calendars a.start a.end in
      given (not starts_in_work || ltb worked needed) (resource_unavailable 6 a.resource)

  -- a plain booking is held whole by one window, of its resource and of its activity
  unfoldable pub check_plain : Assignment T → Option (Activity T) → List Violation
  check_plain a activity =
      given (not (interval_fits K (resource_calendar s a.resource) a.start a.end)) (resource_unavailable 6 a.resource)
      ++ option activity []
      λ x. given (not (interval_fits K (activity_calendar s x.id) a.start a.end)) (time_window_violation 6 a.activity)

  unfoldable pub check_booking : Assignment T → List Violation
  check_booking a =
      option (find_resource s a.resource) [] λ r.
      option (find_activity s a.activity) (check_plain a None) λ activity.
      cond activity.resumable (check_resumable a activity) (check_plain a (Some activity))

  unfoldable pub check_calendars : List Violation
  check_calendars = each check_booking (assignments s)
