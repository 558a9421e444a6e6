use borrow.Author.Rules.{rules}
use Rattle.pieces.specs.inner.Bookings.{first_on}
use Rattle.pieces.proofs.firsts_of.Goals as goal

pub returns : goal.returns
returns c = rw c.as_slice.ensures.rows at (c.mark_into.ensures (first_on c.args.rows.now) (λ k r l p. search rules))
