use Rattle.derived_times.proofs.Parts.{TimingsBelow}
use Rattle.derived_times.proofs.timings_of.Given as goal

abbrev pub invariant-loop-k : goal.invariant-loop-k
invariant-loop-k l = TimingsBelow l.rows l.k l.t
