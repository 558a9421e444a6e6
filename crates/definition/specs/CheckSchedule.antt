-- `check_schedule` of scheduler/feasibility.rs: the nine checks in call order.
use Rattle.std.specs.Prelude.{List, ◌++◌, ℤ}
use Rattle.calendar.specs.Clock.{Clock, clock}
use Rattle.model.specs.Sheet.{Sheet, sheet}
use Rattle.findings.specs.declared.Violation.{Violation}
use Rattle.definition.specs.CheckAssignments.{check_assignments}
use Rattle.definition.specs.CheckTimeOnly.{check_time_only}
use Rattle.definition.specs.CheckParts.{check_parts}
use Rattle.definition.specs.CheckRequirements.{check_requirements}
use Rattle.definition.specs.CheckCapacity.{check_capacity}
use Rattle.definition.specs.CheckCalendars.{check_calendars}
use Rattle.definition.specs.CheckPrecedence.{check_precedence}
use Rattle.definition.specs.CheckDeadlines.{check_deadlines}
use Rattle.definition.specs.CheckConstraints.{check_constraints}

module _ {T : Type 0} (K : Clock T) (s : Sheet T) where
  unfoldable pub check_schedule : List Violation
  check_schedule =
      check_assignments K s
      ++ check_time_only K s
      ++ check_parts s
      ++ check_requirements K s
      ++ check_capacity K s
      ++ check_calendars K s
      ++ check_precedence K s
      ++ check_deadlines K s
      ++ check_constraints K s

-- the findings of a sheet that is lent as rows
unfoldable pub findings : List ℤ → List Violation
findings rows = check_schedule clock (sheet rows)
