use mathlib.Core.Path.{◌≡◌}
use mathlib.Core.List.{foldl}
use Rattle.chains.specs.inner.Left.{Left}
use Rattle.calendar.specs.Clock.{clock}
use Rattle.rows.specs.Cells.{row_count}
use Rattle.sheet.specs.Places.{of_kind}
use Rattle.findings.specs.inner.Told.{so_far, tell, telling}
use Rattle.model.specs.Sheet.{sheet}
use Rattle.definition.specs.CheckRequirements.{check_requirements}
use Rattle.check4_requirements.specs.inner.ByRow.{check_task}
use Rattle.check4_requirements.proofs.check_requirements.Given as goal

abbrev pub invariant-loop-t : goal.invariant-loop-t
invariant-loop-t l =
    Left (of_kind l.rows 1) (row_count l.rows) l.t-iterator
    × (foldl (telling (check_task l.rows)) (so_far l.found) l.t-iterator ≡ tell (so_far l.initial.found) (check_requirements clock (sheet l.rows)))
