use Rattle.derived_times.proofs.Parts.{timings_start}
use Rattle.derived_times.proofs.timings_of.Goals as goal

pub loop-k-init : goal.loop-k-init
loop-k-init c = timings_start _
