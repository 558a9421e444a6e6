use Rattle.std.proofs.Common.{◌≡◌, Some}
use Rattle.freebusy_periods.specs.Duration.{nothing_more}
use Rattle.freebusy_periods.proofs.AmountLaws.{no_more}
use Rattle.freebusy_periods.proofs.DurationLaws.{seconds}
use Rattle.freebusy_periods.proofs.dur_second.Goals as goal

pub returns-in_err-k : goal.returns-in_err-k
returns-in_err-k c = search seconds

pub returns-then-k-ne83 : goal.returns-then-k-ne83
returns-then-k-ne83 c = let w : c.read_amount.result ≡ Some c.in_ok-k.k = c.in_ok-k.was in search seconds

pub returns : goal.returns
returns c = search (seconds, c.then_more.ensures nothing_more (no_more c.in_ok-k.k.rest.now))
