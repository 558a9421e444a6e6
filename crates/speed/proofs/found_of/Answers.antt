use Rattle.acceptance.proofs.Order.{indexed_of}
use borrow.Author.Rules.{rules}
use Rattle.speed.proofs.found_of.Goals as goal

pub new-requires : goal.new-requires
new-requires c = indexed_of _ c.index.ensures (search rules)
