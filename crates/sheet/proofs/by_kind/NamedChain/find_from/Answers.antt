use Rattle.std.proofs.Common.{rules}
use Rattle.sheet.proofs.Naming.{named_sought}
use Rattle.sheet.proofs.by_kind.NamedChain.find_from.Goals as goal

pub returns : goal.returns
returns c =
    rw (← c.self.view_is, ← c.self-inside.view_is)
    (named_sought _ _ c.self-inside.invariant _ _ (λ i b p. search (rules, p)) c.row_count.ensures (rw (← c.self.view_is, ← c.self-inside.view_is) at c.requires) c.find_from.ensures)
