use Rattle.std.proofs.Common.{rules}
use Rattle.stored_run.proofs.Replaying.{cases_ended}
use Rattle.stored_run.proofs.replay_list.Goals as goal

pub returns : goal.returns
returns g c = cases_ended _ _ _ _ _ _ _ _ _ c.loop-case.invariant.2 (search rules)
