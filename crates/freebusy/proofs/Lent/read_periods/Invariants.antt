use Rattle.freebusy_lines.specs.inner.Sent.{lines_left}
use Rattle.freebusy_components.specs.Components.{periods_from}
use Rattle.freebusy_components.proofs.WalkLaws.{Unfolding, unfolded_all}
use Rattle.freebusy.specs.Call.{periods_in}
use Rattle.freebusy.specs.inner.Reading.{unread}
use Rattle.freebusy.proofs.ReadLaws.{Going}
use Rattle.freebusy.proofs.Lent.read_periods.Given as goal

abbrev pub invariant-loop-p : goal.invariant-loop-p
invariant-loop-p l =
    Unfolding l.text l.initial.space (lines_left l.p-iterator.iter) l.space
    × Going l.self.room l.self.resource l.initial.rows unread (periods_in l.text) l.rows l.so_far.found (periods_from l.so_far.begun l.p-iterator.count (unfolded_all (lines_left l.p-iterator.iter)))
