use borrow.Author.Rules.{rules}
use Rattle.calendar.proofs.Stretches.{look_at, all_end_at, first_decides, second_decides}
use Rattle.calendar.proofs.Calendars.look.Goals.{then-all, else-all}
use Rattle.calendar.proofs.Calendars.look.Goals as goal

pub loop-places-preserved : goal.loop-places-preserved
loop-places-preserved c = record {
  value = look_at _ _ _ _ _ _ (search rules) c.loop-places.invariant.value c.windows_in.ensures c.look-here.ensures.working c.look-here.ensures.stop
      (elim c.if-all.branch [ then-all w ↦ second_decides c.loop-places.all c.look-here.result w.if-all.true w.all-is | else-all w ↦ first_decides c.loop-places.all c.look-here.result w.if-all.false w.all-is ]);
  ends = all_end_at _ _ _ _ _ (search rules) c.loop-places.invariant.ends c.windows_in.ensures c.look-here.ensures.ends;
}
