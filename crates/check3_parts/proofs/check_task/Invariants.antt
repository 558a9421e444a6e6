use mathlib.Core.Path.{◌≡◌}
use mathlib.Core.List.{foldl}
use Rattle.chains.specs.inner.Left.{Left}
use Rattle.rows.specs.Cells.{row_count}
use Rattle.owners.specs.inner.Owners.{owned_by}
use Rattle.findings.specs.inner.Told.{so_far, tell, telling}
use Rattle.check3_parts.specs.inner.Booked.{activity_findings, task_findings}
use Rattle.check3_parts.proofs.check_task.Given as goal

abbrev pub invariant-loop-o : goal.invariant-loop-o
invariant-loop-o l =
    Left (owned_by l.rows l.t 2) (row_count l.rows) l.o-iterator
    × (foldl (telling (activity_findings l.rows)) (so_far l.found) l.o-iterator ≡ tell (so_far l.initial.found) (task_findings l.rows l.t))
