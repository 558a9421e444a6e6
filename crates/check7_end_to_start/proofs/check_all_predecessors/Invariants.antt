use mathlib.Core.Path.{◌≡◌}
use mathlib.Core.List.{foldl}
use Rattle.chains.specs.inner.Left.{Left}
use Rattle.findings.specs.inner.Told.{so_far, tell, telling}
use Rattle.rows.specs.Cells.{row_count, num}
use Rattle.owners.specs.inner.Owners.{owned_by}
use Rattle.check7_end_to_start.proofs.Told.{activity_told, activities_told_of}
use Rattle.check7_end_to_start.proofs.check_all_predecessors.Given as goal

abbrev pub invariant-loop-k : goal.invariant-loop-k
invariant-loop-k l =
    Left (owned_by l.rows l.t 2) (row_count l.rows) l.k-iterator
    × (foldl (telling (activity_told l.rows)) (so_far l.found) l.k-iterator ≡ tell (so_far l.initial.found) (activities_told_of l.rows (num l.rows l.t 1)))
