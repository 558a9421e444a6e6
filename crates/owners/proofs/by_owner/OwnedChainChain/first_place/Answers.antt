use Rattle.owners.proofs.Owning.{head_stands, head_join}
use Rattle.owners.proofs.by_owner.OwnedChainChain.first_place.Goals as goal

pub find_from-requires : goal.find_from-requires
find_from-requires c =
    let l = rw (← c.self-inside.view_is) at c.self.invariant in
    rw (← c.self.view_is, ← c.self-inside.view_is) (head_stands _ _ _ _ c.self-inside.invariant l c.first.ensures)

pub returns : goal.returns
returns c =
    let l = rw (← c.self-inside.view_is) at c.self.invariant in
    let f = rw (← c.self.view_is, ← c.self-inside.view_is) at c.find_from.ensures in
    rw (← c.self.view_is, ← c.self-inside.view_is) (head_join _ _ _ _ c.self-inside.invariant l c.first.ensures f)
