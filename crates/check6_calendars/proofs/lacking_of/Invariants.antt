use Rattle.chains.specs.inner.Left.{front, Left}
use Rattle.rows.specs.Cells.{row_count}
use Rattle.sheet.specs.Places.{of_kind}
use Rattle.pieces.proofs.Marks.{Marking}
use Rattle.check6_calendars.specs.inner.Lacking.{lacks_time}
use Rattle.check6_calendars.proofs.lacking_of.Given as goal

abbrev pub invariant-loop-k : goal.invariant-loop-k
invariant-loop-k l =
    Left (of_kind l.rows 23) (row_count l.rows) l.k-iterator
    × Marking (lacks_time l.rows) (front (row_count l.rows) l.k-iterator) l.lacking
