use borrow.Author.Rules.{rules}
use Rattle.load.proofs.Loads.{load_in, most_none, most_more, peak_end}
use Rattle.load.specs.inner.Lent.{lent}
use Rattle.load.proofs.bookings.peak_of.Goals as goal

pub loop-b-init : goal.loop-b-init
loop-b-init c = most_none _

pub loop-b-preserved : goal.loop-b-preserved
unfolding load_in
loop-b-preserved c = rw (c.max-most.ensures, c.load_at.ensures) (most_more _ _ c.b-item.result c.b-item.is (search rules) (load_in (lent c.args.bookings.now)) c.loop-b.invariant)

pub returns : goal.returns
returns c = search (rules, peak_end)
