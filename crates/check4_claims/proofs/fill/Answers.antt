use borrow.Author.Rules.{rules}
use Rattle.chains.proofs.PlaceLaws.{left_start, left_next}
use Rattle.check4_claims.proofs.Claiming.{fill_left, fill_told, marks_from, told_from, tell_turn}
use Rattle.check4_claims.proofs.fill.Goals as goal

pub loop-k-init : goal.loop-k-init
loop-k-init c =
    let e = c.into_iter-k-iterator.ensures.into_iter_gives in
    let p = c.owned_by-k-items.ensures in
    (left_start _ _ e p.places, search rules, rw (e, p.places) (fill_left _ _ _ _ (search rules) p.known), rw (e, p.places) (fill_told _ _ _ _ _ _))

pub loop-k-preserved : goal.loop-k-preserved
unfolding marks_from told_from
loop-k-preserved c =
    let e = c.in-Some.ensures.steps in
    let i = c.loop-k.invariant in
    let a = c.claim_at-units.ensures in
    (left_next _ _ e i.0, search rules, rw (a.marks, a.units) (rw e at i.2), rw (a.marks, a.units) (tell_turn _ _ _ a.wrote (rw e at i.3)))
