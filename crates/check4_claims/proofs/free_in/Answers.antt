use Rattle.chains.proofs.PlaceLaws.{left_start}
use Rattle.check4_claims.proofs.Claiming.{free_all}
use Rattle.check4_claims.proofs.free_in.Goals as goal

pub loop-k-init : goal.loop-k-init
loop-k-init c =
    let e = c.into_iter-k-iterator.ensures.into_iter_gives in
    let p = rw c.deref.ensures at c.owned_by-k-items.ensures.places in
    (left_start _ _ e p, rw (e, p) (free_all _ _ _ (rw c.deref.ensures at c.owned_by-k-items.ensures.known)))
