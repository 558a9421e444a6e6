use mathlib.Core.Path.{ap, ◌∙◌}
use Rattle.chains.proofs.PlaceLaws.{left_all}
use Rattle.resource_timing.specs.Durations.{start}
use Rattle.resource_timing.specs.inner.Limits.{timed_of}
use Rattle.derived_times.specs.inner.Rows.{timed_at}
use Rattle.derived_times.proofs.Derivation.{timed_places}
use borrow.Author.Rules.{rules}
use Rattle.derived_times.proofs.TimedBookings.timed_of.Goals as goal

pub loop-j-init : goal.loop-j-init
loop-j-init c =
    let e = c.into_iter-j-iterator.ensures.into_iter_gives ∙ c.owned_by-j-items.ensures.places in
    rw e (left_all _ _, (start, c.new-f.ensures, search (rules, timed_places)))

pub loop-j-preserved : goal.loop-j-preserved
loop-j-preserved c =
    let h = c.loop-j.invariant in
    let e = c.in-Some.ensures.steps in
    ((rw e at h.0).3, (timed_at c.args.self.now.rows.now c.args.k c.args.piece h.1.0 c.in-Some.j, c.timed_on-f.ensures h.1.0 h.1.1, rw e at h.1.2))

pub returns : goal.returns
returns c =
    let h = c.loop-j.invariant in
    let e = c.in-None.ensures.steps.0 in
    h.1.1 ∙ ap timed_of (rw e at h.1.2)
