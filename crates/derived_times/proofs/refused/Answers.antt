use Rattle.loops.proofs.SearchLaws.{first_zero}
use Rattle.derived_times.proofs.refused.Goals as goal

pub loop-k-init : goal.loop-k-init
loop-k-init c = first_zero _
