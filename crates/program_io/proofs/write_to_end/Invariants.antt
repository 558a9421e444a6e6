use Rattle.std.proofs.Common.{length}
use Rattle.program_io.proofs.Onward.{Within, ahead}
use Rattle.program_io.proofs.write_to_end.Given as goal

abbrev pub invariant-loop-next : goal.invariant-loop-next
invariant-loop-next l = Within l.place (length l.bytes)

abbrev pub decreases-loop-next : goal.decreases-loop-next
decreases-loop-next l = ahead l.place (length l.bytes)
