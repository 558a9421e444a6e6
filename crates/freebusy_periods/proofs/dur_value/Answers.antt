use Rattle.freebusy_periods.proofs.DurationLaws.{values}
use Rattle.freebusy_periods.proofs.dur_value.Goals.{in_default-via-then-s-lt1, in_default-via-else-s-lt1+in_default-1}
use Rattle.freebusy_periods.proofs.dur_value.Goals as goal

pub returns-in-43 : goal.returns-in-43
returns-in-43 c = search values

pub returns-in_default : goal.returns-in_default
returns-in_default c = elim c.in_default.branch [ in_default-via-then-s-lt1 w ↦ search values | in_default-via-else-s-lt1+in_default-1 w ↦ search values ]
