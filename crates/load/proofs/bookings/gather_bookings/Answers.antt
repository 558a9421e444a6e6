use borrow.Author.Rules.{rules}
use native.Mathlib.Omega.{arith}
use Rattle.chains.proofs.PlaceLaws.{left_start, left_few, left_here, left_next, kept_few}
use Rattle.lent_room.proofs.Pushing.{past_first, past_more}
use Rattle.sheet.specs.Places.{of_kind}
use Rattle.load.proofs.Gathering.{gathered_start, gathered_more, gathered_same, gathered_end, gathered_behind}
use Rattle.load.proofs.bookings.gather_bookings.Goals as goal

pub loop-k-init : goal.loop-k-init
loop-k-init c =
    let e = c.into_iter-k-iterator.ensures.into_iter_gives in
    let h = c.of_kind-k-items.ensures.places in
    let l = c.clear.ensures.list in (
      left_start _ _ e h,
      gathered_start _ _ e h l,
      rw l (omega (arith, left_few _ _ e h, c.of_kind-k-items.ensures.known.1)),
      past_first _ l c.clear.ensures.behind,
    )

pub loop-k-preserved-then-is_at : goal.loop-k-preserved-then-is_at
unfolding of_kind
loop-k-preserved-then-is_at c =
    let e = c.in-Some.ensures.steps in
    let w = c.loop-k.invariant in (
      left_next _ _ e w.0,
      gathered_more _ _ _ e (left_here _ _ e w.0) _ w.1 c.at.result (search rules) c.at.ensures c.push.ensures.list,
      kept_few _ _ _ e c.push.ensures.list w.2,
      past_more _ _ _ c.push.ensures.list c.push.ensures.behind w.3,
    )

pub loop-k-preserved : goal.loop-k-preserved
unfolding of_kind
loop-k-preserved c =
    let e = c.in-Some.ensures.steps in
    let w = c.loop-k.invariant in
    (left_next _ _ e w.0, gathered_same _ _ _ e (left_here _ _ e w.0) _ w.1 (search rules), search rules, w.3)

pub returns : goal.returns
returns c =
    let g = gathered_end _ _ _ c.in-None.ensures.steps.0 c.loop-k.invariant.1 in
    record { gathered = g; behind = gathered_behind _ _ g c.loop-k.invariant.3 }
