use Rattle.chains.proofs.PlaceLaws.{left_next}
use Rattle.check4_claims.proofs.Claiming.{tell_turn}
use Rattle.check4_claims.specs.inner.Claims.{claims_of}
use Rattle.check4_claims.proofs.fill_all.Goals as goal

pub loop-q-preserved : goal.loop-q-preserved
unfolding claims_of
loop-q-preserved c =
    let e = c.in-Some.ensures.steps in
    let i = c.loop-q.invariant in
    let a = rw c.owners.ensures at c.fill.ensures in
    (left_next _ _ e i.0, a.size, rw a.left (tell_turn _ _ _ a.wrote (rw e at i.2)))
