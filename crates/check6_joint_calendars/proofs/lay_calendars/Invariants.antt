use Rattle.chains.specs.inner.Left.{front, Left}
use Rattle.lent_room.specs.Listed.{whole}
use Rattle.rows.specs.Cells.{row_count}
use Rattle.sheet.specs.Places.{of_kind}
use Rattle.check6_joint_calendars.specs.inner.Laying.{Resources}
use Rattle.check6_joint_calendars.proofs.lay_calendars.Given as goal

abbrev pub invariant-loop-r : goal.invariant-loop-r
invariant-loop-r l =
    Left (of_kind l.rows 11) (row_count l.rows) l.r-iterator
    × Resources l.rows l.marks (front (row_count l.rows) l.r-iterator) (whole l.fn.list) (whole l.fn.places) l.list l.places
