use Rattle.loops.specs.inner.Chain.{Links}
use Rattle.owners.specs.inner.Owners.{owned_key}
use Rattle.owners.proofs.owned_into.Given as goal

abbrev pub invariant-loop-i : goal.invariant-loop-i
invariant-loop-i l = Links (owned_key l.rows) 8010 l.i l.n l.t
