use Rattle.program_io.proofs.Onward.{reading}
use Rattle.program_io.proofs.read_to_end.Goals as goal

pub loop-next-smaller : goal.loop-next-smaller
loop-next-smaller c = search reading

pub loop-next-preserved : goal.loop-next-preserved
loop-next-preserved c = search reading
