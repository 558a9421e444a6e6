use Rattle.std.proofs.Common.{arith}
use Rattle.program_io.proofs.Filling.{read_more}
use Rattle.program_io.proofs.read_whole.Goals as goal

pub loop-n-preserved : goal.loop-n-preserved
loop-n-preserved g c =
    let w = c.loop-n.invariant in
    let read = c.in-Ok.ensures in
    (omega (arith, w.0, read.bound.0), read_more _ _ _ _ _ _ _ _ w.0 read.bound.0 w.1 read.bytes.0)
