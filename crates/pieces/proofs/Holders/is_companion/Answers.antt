use Rattle.chains.proofs.PlaceLaws.{any_first}
use Rattle.sheet.proofs.Lookups.{found_low}
use Rattle.pieces.proofs.Chains.{companions_blind, no_companions}
use borrow.Author.Rules.{rules}
use Rattle.pieces.proofs.Holders.is_companion.Goals as goal

pub returns-in_default : goal.returns-in_default
returns-in_default c = search (rules, no_companions)

pub find_naming-requires : goal.find_naming-requires
find_naming-requires c = rw c.by_owner-by_owner.ensures (search (rules, found_low), search (rules, companions_blind))

pub returns : goal.returns
returns c = rw (c.is_some.ensures, c.find_naming.ensures, c.by_owner-by_owner.ensures, c.args.self.now.same_rows, c.num.ensures.value) (any_first _ _)
