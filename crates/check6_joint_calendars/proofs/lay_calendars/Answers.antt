use native.Mathlib.Omega.{arith}
use Rattle.chains.proofs.PlaceLaws.{left_below, left_here, left_first, left_next, left_start, front_start}
use Rattle.sheet.proofs.Lookups.{place_low}
use Rattle.check6_joint_calendars.proofs.Marking.{on_resources}
use Rattle.check6_joint_calendars.proofs.Gathering.{gather_first, gather_next, gather_more, gather_none, holder, room_windows, room_calendars, last_windows, last_calendars, lent}
use Rattle.check6_joint_calendars.proofs.Whole.{activity_holder, whole}
use Rattle.check6_joint_calendars.proofs.lay_calendars.Goals as goal

pub loop-r-init : goal.loop-r-init
loop-r-init c =
    let e = c.into_iter-r-iterator.ensures.into_iter_gives in
    let p = c.of_kind-r-items.ensures.places in (
      left_start _ _ e p,
      gather_first _ _ (on_resources _ _ c.mark_resources-marks.ensures) _ _ (front_start _ _ e p) c.clear.ensures.list c.clear.ensures.behind c.clear-2.ensures.list
          c.clear-2.ensures.behind,
    )

pub lay_calendar-requires : goal.lay_calendar-requires
lay_calendar-requires c =
    let e = c.in-Some.ensures.steps in
    let l = left_below _ _ e c.loop-r.invariant.0 in
    let h = rw e at c.loop-r.invariant.1 in
    let b = c.of_kind-r-items.ensures.known.1 in
    rw c.by_owner.ensures.rows
    (omega (arith, l), holder _ _ (on_resources _ _ c.mark_resources-marks.ensures) l c.if-marks-r.true, room_windows _ _ _ _ h b, room_calendars _ _ _ _ h b l)

pub loop-r-preserved-then-marks-r : goal.loop-r-preserved-then-marks-r
loop-r-preserved-then-marks-r c =
    let e = c.in-Some.ensures.steps in
    let h = c.loop-r.invariant.0 in
    let a = rw c.by_owner.ensures.rows at c.lay_calendar.ensures in
    let m = gather_more _ _ _ _ _ _ c.if-marks-r.true (left_here _ _ e h) a (rw e at c.loop-r.invariant.1) in
    (left_next _ _ e h, gather_next _ _ (on_resources _ _ c.mark_resources-marks.ensures) _ _ (left_first _ _ e h) m)

pub loop-r-preserved : goal.loop-r-preserved
loop-r-preserved c =
    let e = c.in-Some.ensures.steps in
    let h = c.loop-r.invariant.0 in
    let m = gather_none _ _ _ _ c.if-marks-r.false (rw e at c.loop-r.invariant.1) in
    (left_next _ _ e h, gather_next _ _ (on_resources _ _ c.mark_resources-marks.ensures) _ _ (left_first _ _ e h) m)

pub lay_calendar-requires-2 : goal.lay_calendar-requires-2
lay_calendar-requires-2 c =
    let h = rw c.in-None.ensures.steps.0 at c.loop-r.invariant.1 in
    let b = c.of_kind-r-items.ensures.known.1 in
    rw c.by_owner-2.ensures.rows
    (place_low _ _ _ c.requires.2, activity_holder _ _ c.requires.2, last_windows _ _ _ _ h b c.args.a, last_calendars _ _ _ _ h b c.args.k c.requires.1 c.requires.0)

pub returns : goal.returns
returns c =
    let h = rw c.in-None.ensures.steps.0 at c.loop-r.invariant.1 in
    let o = whole _ _ _ _ _ _ _ _ _ c.mark_resources-marks.ensures h (rw c.by_owner-2.ensures.rows at c.lay_calendar-2.ensures) in
    record { laid = o; calendars = lent _ _ _ _ _ o }
