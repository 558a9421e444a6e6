use Rattle.freebusy_lines.proofs.SentLaws.{Sending}
use Rattle.freebusy_lines.proofs.first_line.Given as goal

abbrev pub invariant-loop-i : goal.invariant-loop-i
invariant-loop-i l = Sending l.s l.i
