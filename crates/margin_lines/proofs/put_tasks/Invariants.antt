use mathlib.Core.Path.{◌≡◌}
use mathlib.Core.List.{foldl}
use Rattle.loops.specs.Lists.{each}
use Rattle.calendar.specs.Clock.{clock}
use Rattle.chains.specs.inner.Left.{Left}
use Rattle.rows.specs.Cells.{row_count}
use Rattle.sheet.specs.Places.{of_kind}
use Rattle.model.specs.Sheet.{sheet}
use Rattle.model.specs.Task.{tasks}
use Rattle.margin_lines.specs.Margins.{task_margin}
use Rattle.margin_lines.specs.inner.Told.{so_far, tell, telling}
use Rattle.margin_lines.proofs.Told.{task_told}
use Rattle.margin_lines.proofs.put_tasks.Given as goal

abbrev pub invariant-loop-k : goal.invariant-loop-k
invariant-loop-k l =
    Left (of_kind l.rows 1) (row_count l.rows) l.k-iterator
    × (foldl (telling (task_told l.rows)) (so_far l.lines) l.k-iterator ≡ tell (so_far l.initial.lines) (each (task_margin clock (sheet l.rows)) (tasks (sheet l.rows))))
