use mathlib.Core.Path.{◌≡◌}
use mathlib.Core.List.{foldl}
use Rattle.chains.specs.inner.Left.{Left}
use Rattle.findings.specs.inner.Told.{so_far, tell, telling}
use Rattle.rows.specs.Cells.{row_count}
use Rattle.sheet.specs.Places.{of_kind}
use Rattle.check7_end_to_start.proofs.Told.{constraint_told, constraints_of}
use Rattle.check7_end_to_start.proofs.check_precedence_constraints.Given as goal

abbrev pub invariant-loop-k : goal.invariant-loop-k
invariant-loop-k l =
    Left (of_kind l.rows 17) (row_count l.rows) l.k-iterator
    × (foldl (telling (constraint_told l.rows)) (so_far l.found) l.k-iterator ≡ tell (so_far l.initial.found) (constraints_of l.rows))
