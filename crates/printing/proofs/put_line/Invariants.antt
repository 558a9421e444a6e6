use Rattle.loops.specs.Range.{collect}
use Rattle.printing.specs.NumberLines.{field}
use Rattle.loops.specs.inner.Wrote.{Wrote}
use Rattle.printing.proofs.put_line.Given as goal

abbrev pub invariant-loop-c : goal.invariant-loop-c
invariant-loop-c l = Wrote l.initial.out l.from l.out l.at (collect (field l.line) l.c)
