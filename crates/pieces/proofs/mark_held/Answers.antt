use borrow.Author.Rules.{rules}
use Rattle.pieces.specs.inner.Held.{held_at}
use Rattle.pieces.proofs.mark_held.Goals as goal

pub returns : goal.returns
returns c = rw c.as_slice.ensures.rows at (c.mark_into.ensures (held_at c.args.rows.now) (λ k r l p. search rules))
