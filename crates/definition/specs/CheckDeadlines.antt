-- Check 8: `check_deadlines` of scheduler/feasibility.rs.
use Rattle.std.specs.Prelude.{List, [], ltb}
use Rattle.loops.specs.Lists.{given, option, each}
use Rattle.calendar.specs.Clock.{Clock}
use Rattle.findings.specs.declared.Violation.{Violation}
use Rattle.model.specs.Sheet.{Sheet}
use Rattle.model.specs.Task.{Task, tasks, tardiness_ms}
use Rattle.model.specs.Schedule.{task_completion_time, deadline_miss}

module _ {T : Type 0} (K : Clock T) (s : Sheet T) where
  unfoldable pub check_deadline : Task T → List Violation
  check_deadline t =
      option (task_completion_time K s t.id) []
      λ completion. given (ltb 0 (tardiness_ms K completion t.deadline)) (deadline_miss 8 t.id)

  unfoldable pub check_deadlines : List Violation
  check_deadlines = each check_deadline (tasks s)
