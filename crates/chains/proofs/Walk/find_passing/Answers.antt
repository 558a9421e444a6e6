use mathlib.Core.Path.{sym}
use native.Mathlib.Omega.{arith}
use Rattle.chains.proofs.PlaceLaws.{places_here, places_turn, places_end}
use Rattle.chains.proofs.Passing.{passing_start, passing_here, passing_next, passing_hit, passing_end}
use Rattle.chains.proofs.Walk.find_passing.Goals as goal

pub loop-k-init : goal.loop-k-init
loop-k-init g c = (c.self.invariant.0, passing_start (sym c.self.view_is))

pub test-requires : goal.test-requires
test-requires g c =
    let here = places_here (g.C.Chain.test c.self.inside.chain) c.self.inside.end c.loop-k.k (c.loop-k.invariant.0.here (omega (arith, c.loop-k-test.true, c.self.invariant.1))) c.loop-k-test.true in
    c.requires.callable c.loop-k.k (passing_here c.loop-k.invariant.1 here)

pub returns-then-test : goal.returns-then-test
returns-then-test g c = λ q h.
    let here = places_here (g.C.Chain.test c.self.inside.chain) c.self.inside.end c.loop-k.k (c.loop-k.invariant.0.here (omega (arith, c.loop-k-test.true, c.self.invariant.1))) c.loop-k-test.true in
    passing_hit c.loop-k.invariant.1 here q h c.if-test.ensures

pub next_place-k-requires : goal.next_place-k-requires
next_place-k-requires g c = (c.loop-k.invariant.0, omega (arith, c.loop-k-test.true, c.self.invariant.1))

pub loop-k-smaller : goal.loop-k-smaller
loop-k-smaller g c = omega (arith, c.loop-k-test.true, c.next_place-k.ensures.low)

pub loop-k-preserved : goal.loop-k-preserved
loop-k-preserved g c =
    let turn = places_turn (g.C.Chain.test c.self.inside.chain) c.self.inside.end c.self.invariant.1 c.loop-k.invariant.0 c.loop-k-test.true c.next_place-k.ensures in
    (record { high = c.next_place-k.ensures.high; here = c.next_place-k.ensures.here }, passing_next c.loop-k.invariant.1 turn c.if-test.ensures)

pub returns : goal.returns
returns g c = λ q h. passing_end c.loop-k.invariant.1 (places_end (g.C.Chain.test c.self.inside.chain) c.self.inside.end c.loop-k.k c.loop-k-test.false) q h
