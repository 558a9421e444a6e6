use Rattle.chains.proofs.PlaceLaws.{left_below, left_first, left_next, left_start, front_start}
use Rattle.check6_calendars.proofs.Resumable.{lacking_first, lacking_next}
use Rattle.check6_calendars.proofs.lacking_of.Goals as goal

pub loop-k-init : goal.loop-k-init
loop-k-init c =
    let e = c.into_iter-k-iterator.ensures.into_iter_gives in
    let p = c.of_kind-k-items.ensures.places in
    (left_start _ _ e p, lacking_first _ (front_start _ _ e p))

pub loop-k-preserved : goal.loop-k-preserved
loop-k-preserved c =
    let e = c.in-Some.ensures.steps in
    let h = c.loop-k.invariant.0 in
    let m = rw e at c.loop-k.invariant.1 in
    (left_next _ _ e h, lacking_next _ _ (left_first _ _ e h) (left_below _ _ e h) c.requires.short c.lacks_at.ensures m)
