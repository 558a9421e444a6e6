-- Check 1: `check_assignments` of scheduler/feasibility.rs.
use Rattle.std.specs.Prelude.{ℕ, suc, Bool, cond, not, ◌&&◌, ◌||◌, eqb, ℤ, pos, ◌+ℤ◌}
use mathlib.Core.List.{List, [], ◌∷◌, ◌++◌, map, foldl}
use Rattle.std.specs.Prelude.{Option, None, Some}
use Rattle.std.specs.Int.Signed.{lt_z}
use Rattle.loops.specs.Lists.{given, count_of, option, is_some, each}
use Rattle.loops.specs.Numbers.{max_z}
use Rattle.loops.specs.Range.{collect}
use Rattle.calendar.specs.Clock.{Clock}
use Rattle.findings.specs.declared.Violation.{Violation}
use Rattle.model.specs.Sheet.{Sheet}
use Rattle.model.specs.Task.{find_task}
use Rattle.model.specs.Activity.{Activity, find_activity, split, requirements, needed_ms}
use Rattle.model.specs.Schedule.{Assignment, assignment_at, assignments_below, unknown_activity, duration_too_short, early_start}
use Rattle.definition.specs.Pieces.{of_piece, is_held, runs_on}

module _ {T : Type 0} (s : Sheet T) where
  -- the booking names another task than its activity's, or a part of an activity that is not split: it is reported, and judged no further
  abbrev pub misplaced : Activity T → Assignment T → Bool
  misplaced activity a = not (eqb a.task activity.task) || (is_some a.part && not (is_some (split s activity.id)))

  -- `units`: what the requirements take, at least 1
  unfoldable pub units : ℕ → ℤ
  units activity = max_z (foldl ◌+ℤ◌ (pos 0) (map (λ q. q.quantity) (requirements s activity))) (pos 1)

  -- `uses`: how many units the earlier bookings take of a's piece; a misplaced booking and a held companion take none
  unfoldable pub uses : Activity T → Assignment T → List (Assignment T) → ℕ
  uses activity a earlier = count_of (λ x. of_piece a x && (not (misplaced activity x) && not (is_held s x))) earlier

module _ {T : Type 0} (K : Clock T) (s : Sheet T) where
  abbrev pub early_assignment : Assignment T → Option T → List Violation
  early_assignment a None = []
  early_assignment a (Some release) = given (K.before a.start release) (early_start 1 a.activity)

  -- a booking of a known activity, after the earlier bookings
  unfoldable pub check_known : List (Assignment T) → Assignment T → Activity T → List Violation
  check_known earlier a activity =
      cond (misplaced s activity a) (unknown_activity 1 a.activity ∷ [])
      (cond (is_held s a) []
      (let used : ℕ = suc (uses s activity a earlier) in
      let needed : ℕ = needed_ms s activity a (runs_on s a) in
      given (lt_z (units s activity.id) (pos used)) (unknown_activity 1 a.activity)
      ++ given (lt_z (K.minus a.end a.start) (pos needed)) (duration_too_short 1 a.activity)
      ++ early_assignment a activity.release
      ++ early_assignment a (option (find_task s activity.task) None (λ t. t.release))))

  -- a booking of an unknown activity is an external booking unless its task is known
  unfoldable pub check_assignment : List (Assignment T) → Assignment T → List Violation
  check_assignment earlier a =
      option (find_activity s a.activity) (given (is_some (find_task s a.task)) (unknown_activity 1 a.activity))
      (check_known earlier a)

  unfoldable pub check_assignment_at : ℕ → List Violation
  check_assignment_at k = each (check_assignment (assignments_below s k)) (assignment_at s k)

  unfoldable pub check_assignments : List Violation
  check_assignments = collect check_assignment_at s.count
