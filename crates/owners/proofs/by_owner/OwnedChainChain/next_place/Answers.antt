use Rattle.owners.proofs.Owning.{next_stands, next_join}
use Rattle.owners.proofs.by_owner.OwnedChainChain.next_place.Goals as goal

pub find_from-requires : goal.find_from-requires
find_from-requires c =
    let h = rw (← c.self.view_is, ← c.self-inside.view_is) at c.requires in
    rw (← c.self.view_is, ← c.self-inside.view_is) (next_stands _ _ _ _ c.self-inside.invariant h.0 h.1 c.next.ensures)

pub returns : goal.returns
returns c =
    let h = rw (← c.self.view_is, ← c.self-inside.view_is) at c.requires in
    let f = rw (← c.self.view_is, ← c.self-inside.view_is) at c.find_from.ensures in
    rw (← c.self.view_is, ← c.self-inside.view_is) (next_join _ _ _ _ c.self-inside.invariant h.0 h.1 c.next.ensures f)
