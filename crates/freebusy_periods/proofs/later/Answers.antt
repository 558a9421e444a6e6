use Rattle.std.proofs.Common.{refl}
use Rattle.freebusy_periods.proofs.PeriodLaws.{on_by}
use Rattle.freebusy_periods.proofs.later.Goals as goal

pub returns : goal.returns
returns c = on_by _ _ _ _ c.requires c.cut.ensures.0 refl c.then_some.ensures
