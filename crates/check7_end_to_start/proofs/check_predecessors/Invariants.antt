use mathlib.Core.Path.{◌≡◌}
use mathlib.Core.List.{foldl}
use Rattle.findings.specs.inner.Told.{so_far, tell, telling}
use Rattle.rows.specs.Cells.{num}
use Rattle.check7_end_to_start.proofs.Told.{predecessor_told, predecessors_of}
use Rattle.check7_end_to_start.proofs.check_predecessors.Given as goal

abbrev pub invariant-loop-k : goal.invariant-loop-k
invariant-loop-k l = foldl (telling (predecessor_told l.rows (num l.rows l.o 1))) (so_far l.found) l.k-iterator ≡ tell (so_far l.initial.found) (predecessors_of l.rows (num l.rows l.o 1))
