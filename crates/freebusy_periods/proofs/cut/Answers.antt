use Rattle.std.proofs.Common.{arith, ◌∙◌}
use Rattle.freebusy_periods.proofs.CapLaws.{cut_is}
use Rattle.freebusy_periods.proofs.cut.Goals as goal

pub returns : goal.returns
returns c = (c.min.ensures ∙ cut_is _, omega (arith, c.min.ensures))
