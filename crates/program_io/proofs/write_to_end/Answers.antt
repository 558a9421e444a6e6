use Rattle.program_io.proofs.Onward.{writing}
use Rattle.program_io.proofs.write_to_end.Goals as goal

pub loop-next-smaller : goal.loop-next-smaller
loop-next-smaller c = search writing

pub loop-next-preserved : goal.loop-next-preserved
loop-next-preserved c = search writing
