use Rattle.loops.proofs.StoreLaws.{filled_start}
use Rattle.derived_times.proofs.needs_into.Goals as goal

pub loop-k-init : goal.loop-k-init
loop-k-init c = filled_start _
