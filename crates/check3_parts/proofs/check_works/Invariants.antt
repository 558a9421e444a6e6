use mathlib.Core.Path.{◌≡◌}
use mathlib.Core.List.{[], foldl}
use Rattle.chains.specs.inner.Left.{Left}
use Rattle.rows.specs.Cells.{row_count, num}
use Rattle.owners.specs.inner.Owners.{owned_by}
use Rattle.findings.specs.inner.Told.{so_far, tell, telling}
use Rattle.definition.specs.CheckParts.{two_works}
use Rattle.check3_parts.specs.inner.Booked.{parts_below}
use Rattle.check3_parts.proofs.Works.{works_at}
use Rattle.check3_parts.proofs.check_works.Given as goal

abbrev pub invariant-loop-k : goal.invariant-loop-k
invariant-loop-k l =
    Left (owned_by l.rows l.o 23) (row_count l.rows) l.k-iterator
    × (foldl (telling (works_at l.rows l.o)) (so_far l.found) l.k-iterator ≡ tell (so_far l.initial.found) (two_works (num l.rows l.o 1) [] (parts_below l.rows l.o (row_count l.rows))))
