use Rattle.std.proofs.Common.{refl}
use Rattle.freebusy_periods.proofs.PeriodLaws.{back_by}
use Rattle.freebusy_periods.proofs.earlier.Goals as goal

pub returns : goal.returns
returns c = back_by _ _ _ _ c.requires c.cut.ensures.0 refl c.checked_sub.ensures
