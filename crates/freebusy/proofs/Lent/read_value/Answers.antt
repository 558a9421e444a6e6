use Rattle.std.proofs.Common.{rules}
use Rattle.freebusy.proofs.ReadLaws.{going_start}
use Rattle.freebusy.proofs.StepLaws.{value_last, value_more}
use Rattle.freebusy.proofs.Lent.read_value.Goals as goal

pub loop-s-init : goal.loop-s-init
loop-s-init c = search (rules, going_start)

pub loop-s-preserved : goal.loop-s-preserved
loop-s-preserved c = value_more _ _ c.loop-s.invariant c.in-Some.ensures.steps c.read_period-so_far.ensures (search rules)

pub returns : goal.returns
returns c = let e = c.in-None.ensures.steps in value_last _ _ c.loop-s.invariant e.0
