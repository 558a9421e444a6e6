use Rattle.std.proofs.Common.{rules}
use Rattle.sheet.proofs.Naming.{hash_below, name_head}
use Rattle.sheet.proofs.by_kind.NamedChain.first_hashed.Goals as goal

pub first-requires : goal.first-requires
first-requires c = search (rules, hash_below)

pub returns : goal.returns
returns c = rw (← c.self.view_is, ← c.self-inside.view_is, ← c.number.ensures, c.first.ensures) (name_head _ _ c.self-inside.invariant _ _ c.name_key-key.ensures)
