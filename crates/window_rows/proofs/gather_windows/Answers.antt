use Rattle.std.proofs.Common.{arith}
use Rattle.std.proofs.lemmas.Grind.{common_steps}
use Rattle.lent_room.proofs.Pushing.{past_next}
use Rattle.window_rows.specs.Listed.{calendar_in}
use Rattle.window_rows.proofs.gather_windows.Goals as goal

pub loop-k-preserved : goal.loop-k-preserved
unfolding calendar_in
loop-k-preserved c = grind (arith, common_steps, past_next _ c.in-Some.ensures.steps c.push.ensures.behind c.loop-k.invariant.2)
