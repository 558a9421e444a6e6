use Rattle.chains.specs.inner.Left.{front, Left}
use Rattle.rows.specs.Cells.{row_count}
use Rattle.owners.specs.inner.Owners.{owned_by}
use Rattle.check6_joint_calendars.specs.inner.Taken.{Marked}
use Rattle.check6_joint_calendars.proofs.mark_resources.Given as goal

abbrev pub invariant-loop-j : goal.invariant-loop-j
invariant-loop-j l =
    Left (owned_by l.rows l.a 23) (row_count l.rows) l.j-iterator
    × Marked l.rows l.k (front (row_count l.rows) l.j-iterator) l.marks
