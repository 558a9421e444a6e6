use borrow.Author.Rules.{rules}
use Rattle.sheet.proofs.Lookups.{found_low}
use Rattle.pieces.proofs.Chains.{moves_blind}
use Rattle.check7_transport.proofs.transport_to.Goals as goal

pub find_naming-requires : goal.find_naming-requires
find_naming-requires c = rw c.by_owner.ensures (search (rules, found_low), search (rules, moves_blind))
