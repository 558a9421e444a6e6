use Rattle.freebusy.proofs.StepLaws.{line_outside, line_periods, line_other}
use Rattle.freebusy.proofs.Lent.read_line_periods.Goals as goal

pub returns-in-Some : goal.returns-in-Some
returns-in-Some c = search line_periods

pub returns-in_default : goal.returns-in_default
returns-in_default c = search line_other

pub returns-in_default-2 : goal.returns-in_default-2
returns-in_default-2 c = search line_outside
