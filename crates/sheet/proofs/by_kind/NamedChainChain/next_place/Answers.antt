use Rattle.loops.proofs.TableLaws.{seeking_from}
use Rattle.loops.proofs.Walks.{stands}
use Rattle.sheet.proofs.Naming.{name_blind, named_next}
use Rattle.sheet.proofs.by_kind.NamedChainChain.next_place.Goals as goal

pub find_from-requires : goal.find_from-requires
find_from-requires c =
    let h = rw (← c.self.view_is, ← c.self-inside.view_is) at c.requires in
    rw (← c.self.view_is, ← c.self-inside.view_is) (stands _ _ _ (named_next _ _ c.self-inside.invariant _ _ h c.next.ensures))

pub returns : goal.returns
returns c =
    let h = rw (← c.self.view_is, ← c.self-inside.view_is) at c.requires in
    let f = named_next _ _ c.self-inside.invariant _ _ h c.next.ensures in
    seeking_from _ _ _ _ _ _ (name_blind _ _ _) (rw (← c.self.view_is, ← c.self-inside.view_is) f) c.find_from.ensures
