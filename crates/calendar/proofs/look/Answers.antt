use borrow.Author.Rules.{rules}
use Rattle.calendar.proofs.Windows.{standing_at}
use Rattle.calendar.proofs.Stretches.{window_at}
use Rattle.calendar.proofs.look.Goals as goal

pub loop-x-preserved : goal.loop-x-preserved
loop-x-preserved c =
    let i = c.loop-x.invariant in
    let s = window_at _ _ _ _ _ (search rules) i.stop i.ends c.nearer.ensures c.nearer-in-loop-x.ensures c.min-stop.ensures c.ranges.b (search rules) (search rules) in
    record {
      standing = standing_at _ _ _ (search rules) _ _ i.standing c.contains-here.ensures c.contains-here.ensures c.add-standing.ensures;
      stop = s.0;
      ends = s.1;
    }
