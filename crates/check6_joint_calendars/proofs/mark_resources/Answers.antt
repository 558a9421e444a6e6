use Rattle.chains.proofs.PlaceLaws.{left_first, left_next, left_start, front_start}
use Rattle.check6_joint_calendars.proofs.Marking.{mark_first, mark_next}
use Rattle.check6_joint_calendars.proofs.mark_resources.Goals as goal

pub loop-j-init : goal.loop-j-init
loop-j-init c =
    let e = c.into_iter-j-iterator.ensures.into_iter_gives in
    let p = c.owned_by-j-items.ensures.places in
    (left_start _ _ e p, mark_first _ _ _ c.requires.0 c.requires.1 (front_start _ _ e p) c.owned_by-j-items.ensures.known.1)

pub loop-j-preserved : goal.loop-j-preserved
loop-j-preserved c =
    let e = c.in-Some.ensures.steps in
    let h = c.loop-j.invariant.0 in
    (left_next _ _ e h, mark_next _ _ _ c.requires.0 c.requires.1 (left_first _ _ e h) c.mark_resource.ensures)
