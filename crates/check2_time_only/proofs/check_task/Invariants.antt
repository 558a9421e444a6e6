use mathlib.Core.Path.{◌≡◌}
use mathlib.Core.List.{foldl}
use Rattle.chains.specs.inner.Left.{Left}
use Rattle.findings.specs.inner.Told.{so_far, tell, telling}
use Rattle.rows.specs.Cells.{row_count}
use Rattle.owners.specs.inner.Owners.{owned_by}
use Rattle.check2_time_only.proofs.Told.{unplaced_at, task_at_row}
use Rattle.check2_time_only.proofs.check_task.Given as goal

abbrev pub invariant-loop-a : goal.invariant-loop-a
invariant-loop-a l =
    Left (owned_by l.rows l.t 2) (row_count l.rows) l.a-iterator
    × (foldl (telling (unplaced_at l.rows)) (so_far l.found) l.a-iterator ≡ tell (so_far l.initial.found) (task_at_row l.rows l.t))
