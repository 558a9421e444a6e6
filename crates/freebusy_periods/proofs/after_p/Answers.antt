use Rattle.freebusy_periods.specs.Duration.{nothing_more}
use Rattle.freebusy_periods.proofs.AmountLaws.{no_more}
use Rattle.freebusy_periods.proofs.DurationLaws.{dates}
use Rattle.freebusy_periods.proofs.after_p.Goals as goal

pub returns-in_default : goal.returns-in_default
returns-in_default c = search dates

pub returns-in-68 : goal.returns-in-68
returns-in-68 c = search dates

pub returns-in-87 : goal.returns-in-87
returns-in-87 c = search (dates, c.then_more-in-87.ensures nothing_more (no_more c.in-Some.k.rest.now))

pub returns-in_default-unit : goal.returns-in_default-unit
returns-in_default-unit c = search dates
