use Rattle.std.proofs.Common.{rules}
use Rattle.sheet.proofs.Naming.{pair_sought}
use Rattle.sheet.proofs.by_kind.NamedChain.has_earlier_pair.Goals as goal

pub returns : goal.returns
returns c =
    rw (← c.self.view_is, ← c.self-inside.view_is)
    (pair_sought _ _ c.self-inside.invariant _ _ _ _ (λ i b p. search (rules, p)) (rw (← c.self.view_is, ← c.self-inside.view_is) at c.requires)
    (rw (← c.self.view_is, ← c.self-inside.view_is) at c.first_hashed-first.ensures) c.find_from.ensures)
