use Rattle.freebusy_property.proofs.QuoteLaws.{Seeking}
use Rattle.freebusy_property.proofs.quotes.split_unquoted.Given as goal

abbrev pub invariant-loop-i : goal.invariant-loop-i
invariant-loop-i l = Seeking l.s l.stop l.i l.quoted
