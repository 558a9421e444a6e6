use Rattle.loops.proofs.StoreLaws.{Filled}
use Rattle.derived_times.specs.inner.Needs.{rest_at}
use Rattle.derived_times.proofs.needs_into.Given as goal

abbrev pub invariant-loop-k : goal.invariant-loop-k
invariant-loop-k l = Filled (rest_at l.fn.rows) l.k l.need
