use mathlib.Core.Path.{◌≡◌}
use mathlib.Core.List.{foldl}
use Rattle.chains.specs.inner.Left.{Left}
use Rattle.findings.specs.inner.Told.{so_far, tell, telling}
use Rattle.rows.specs.Cells.{row_count}
use Rattle.loops.specs.Lists.{each}
use Rattle.calendar.specs.Clock.{clock}
use Rattle.sheet.specs.Places.{of_kind}
use Rattle.model.specs.Sheet.{sheet}
use Rattle.model.specs.Task.{tasks}
use Rattle.model.specs.Activity.{activities_of}
use Rattle.definition.specs.CheckTimeOnly.{check_unplaced}
use Rattle.check2_time_only.proofs.Told.{task_at_row}
use Rattle.check2_time_only.proofs.check_tasks.Given as goal

abbrev pub invariant-loop-t : goal.invariant-loop-t
invariant-loop-t l =
    Left (of_kind l.rows 1) (row_count l.rows) l.t-iterator
    × (foldl (telling (task_at_row l.rows)) (so_far l.found) l.t-iterator ≡ tell (so_far l.initial.found) (each (λ t. each (check_unplaced clock (sheet l.rows)) (activities_of (sheet l.rows) t.id)) (tasks (sheet l.rows))))
