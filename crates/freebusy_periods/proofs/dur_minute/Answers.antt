use Rattle.std.proofs.Common.{◌≡◌, Some}
use Rattle.freebusy_periods.proofs.DurationLaws.{minutes}
use Rattle.freebusy_periods.proofs.dur_minute.Goals as goal

pub returns-in_err-k : goal.returns-in_err-k
returns-in_err-k c = search minutes

pub returns-then-k-ne77 : goal.returns-then-k-ne77
returns-then-k-ne77 c = let w : c.read_amount.result ≡ Some c.in_ok-k.k = c.in_ok-k.was in search minutes

pub returns : goal.returns
returns c = search minutes
