use Rattle.std.proofs.Common.{rules}
use Rattle.sheet.proofs.Naming.{kind_head}
use Rattle.sheet.proofs.by_kind.KindChainChain.first_place.Goals as goal

pub returns : goal.returns
returns c = rw (← c.self.view_is, ← c.self-inside.view_is, ← c.number.ensures, c.first.ensures) (kind_head _ _ c.self-inside.invariant _ (search rules))
