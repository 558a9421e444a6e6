use Rattle.std.proofs.Common.{rules}
use Rattle.owners.proofs.Owning.{owned_sought}
use Rattle.owners.proofs.by_owner.OwnedChain.find_from.Goals as goal

pub returns : goal.returns
returns c =
    rw (← c.self.view_is, ← c.self-inside.view_is)
    (owned_sought _ _ _ _ c.self-inside.invariant (λ i b p. search (rules, p)) c.row_count.ensures (rw (← c.self.view_is, ← c.self-inside.view_is) at c.requires) c.find_from.ensures)
