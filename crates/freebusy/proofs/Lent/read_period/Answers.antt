use Rattle.freebusy.proofs.StepLaws.{verdict_and, period_read}
use Rattle.freebusy.proofs.WindowLaws.{window_early}
use Rattle.freebusy.proofs.Lent.read_period.Goals as goal

pub put_window-count-requires : goal.put_window-count-requires
put_window-count-requires c = search window_early

pub returns : goal.returns
returns c = search (period_read, verdict_and)
