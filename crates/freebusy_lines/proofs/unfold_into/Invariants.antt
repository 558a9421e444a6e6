use Rattle.std.proofs.Common.{length}
use Rattle.freebusy_lines.proofs.FoldLaws.{Copied}
use Rattle.freebusy_lines.proofs.unfold_into.Given as goal

abbrev pub invariant-loop-rest : goal.invariant-loop-rest
invariant-loop-rest l = Copied l.s l.initial.to l.to l.rest l.n

abbrev pub decreases-loop-rest : goal.decreases-loop-rest
decreases-loop-rest l = length l.rest
