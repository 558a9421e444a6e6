use mathlib.Core.Path.{◌≡◌}
use mathlib.Core.List.{foldl}
use Rattle.calendar.specs.Clock.{clock}
use Rattle.chains.specs.inner.Left.{Left}
use Rattle.findings.specs.inner.Told.{so_far, tell, telling}
use Rattle.rows.specs.Cells.{row_count}
use Rattle.model.specs.Sheet.{sheet}
use Rattle.load.specs.inner.Firsts.{is_first}
use Rattle.definition.specs.CheckCapacity.{check_capacity}
use Rattle.check5_capacity.proofs.Reported.{told_at}
use Rattle.check5_capacity.proofs.check_capacity.Given as goal

abbrev pub invariant-loop-k : goal.invariant-loop-k
invariant-loop-k l =
    Left (is_first l.rows) (row_count l.rows) l.k-iterator
    × (foldl (telling (told_at l.rows)) (so_far l.found) l.k-iterator ≡ tell (so_far l.initial.found) (check_capacity clock (sheet l.rows)))
