use mathlib.Core.Path.{◌≡◌}
use mathlib.Core.List.{foldl}
use Rattle.calendar.specs.Clock.{clock}
use Rattle.chains.specs.inner.Left.{Left}
use Rattle.findings.specs.inner.Told.{so_far, tell, telling}
use Rattle.rows.specs.Cells.{row_count}
use Rattle.sheet.specs.Places.{of_kind}
use Rattle.model.specs.Sheet.{sheet}
use Rattle.definition.specs.CheckAssignments.{check_assignment_at, check_assignments}
use Rattle.check1_assignments.proofs.check_assignments.Given as goal

abbrev pub invariant-loop-k : goal.invariant-loop-k
invariant-loop-k l =
    Left (of_kind l.rows 23) (row_count l.rows) l.k-iterator
    × (foldl (telling (check_assignment_at clock (sheet l.rows))) (so_far l.found) l.k-iterator ≡ tell (so_far l.initial.found) (check_assignments clock (sheet l.rows)))
