use Rattle.std.proofs.Common.{◌≡◌, Some}
use Rattle.freebusy_periods.specs.Duration.{nothing_more}
use Rattle.freebusy_periods.proofs.AmountLaws.{no_more}
use Rattle.freebusy_periods.proofs.DurationLaws.{times}
use Rattle.freebusy_periods.proofs.after_t.Goals as goal

pub returns-in_err-k : goal.returns-in_err-k
returns-in_err-k c = search times

pub returns-in-72 : goal.returns-in-72
returns-in-72 c = search times

pub returns-in-77 : goal.returns-in-77
returns-in-77 c = search times

pub returns-in-83 : goal.returns-in-83
returns-in-83 c = search (times, c.then_more-in-83.ensures nothing_more (no_more c.in_ok-k.k.rest.now))

pub returns-in_default : goal.returns-in_default
returns-in_default c = let w : c.read_amount.result ≡ Some c.in_ok-k.k = c.in_ok-k.was in search times
