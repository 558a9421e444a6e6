use Rattle.freebusy_periods.proofs.CapLaws.{Reading}
use Rattle.freebusy_periods.proofs.read_amount.Given as goal

abbrev pub invariant-loop-i : goal.invariant-loop-i
invariant-loop-i l = Reading l.s l.n l.i
