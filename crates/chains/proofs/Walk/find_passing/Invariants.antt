use Rattle.std.proofs.Common.{◌-◌}
use Rattle.loops.specs.inner.Chain.{Stands}
use Rattle.chains.specs.Places.{places}
use Rattle.chains.specs.inner.Left.{from}
use Rattle.chains.proofs.Passing.{Passing}
use Rattle.chains.proofs.Walk.find_passing.Given as goal

abbrev pub invariant-loop-k : goal.invariant-loop-k
invariant-loop-k g l =
    Stands (g.C.Chain.test l.self-inside.chain) (g.C.Chain.end l.self-inside.chain) l.k
    × Passing (goal.F-post g l.fn.test) l.self (places (from l.k (g.C.Chain.test l.self-inside.chain)) l.self-inside.end)

abbrev pub decreases-loop-k : goal.decreases-loop-k
decreases-loop-k g l = l.self-inside.end - l.k
