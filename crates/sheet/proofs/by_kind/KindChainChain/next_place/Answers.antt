use Rattle.sheet.proofs.Naming.{kind_next}
use Rattle.sheet.proofs.by_kind.KindChainChain.next_place.Goals as goal

pub returns : goal.returns
returns c =
    let h = rw (← c.self.view_is, ← c.self-inside.view_is) at c.requires in
    rw (← c.self.view_is, ← c.self-inside.view_is, c.next.ensures) (kind_next _ _ c.self-inside.invariant _ _ h.0 h.1)
