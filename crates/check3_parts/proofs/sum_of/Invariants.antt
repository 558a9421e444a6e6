use Rattle.chains.specs.inner.Left.{front, Left}
use Rattle.rows.specs.Cells.{row_count}
use Rattle.owners.specs.inner.Owners.{owned_by}
use Rattle.check3_parts.specs.inner.Measure.{Summed}
use Rattle.check3_parts.proofs.sum_of.Given as goal

abbrev pub invariant-loop-k : goal.invariant-loop-k
invariant-loop-k g l =
    Left (owned_by l.rows l.o 23) (row_count l.rows) l.k-iterator
    × Summed (goal.F-post g l.fn.measure) l.rows l.o (front (row_count l.rows) l.k-iterator) l.sum
