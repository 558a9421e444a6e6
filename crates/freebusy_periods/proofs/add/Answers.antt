use Rattle.std.proofs.Common.{◌∙◌}
use Rattle.freebusy_periods.proofs.CapLaws.{cut_sum}
use Rattle.freebusy_periods.proofs.add.Goals as goal

pub returns : goal.returns
returns c = c.cut-3.ensures.0 ∙ cut_sum _ _ _ _ c.cut.ensures.0 c.cut-2.ensures.0
