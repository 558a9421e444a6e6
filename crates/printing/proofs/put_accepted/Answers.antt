use Rattle.printing.proofs.PutLaws.{accepted_put}
use borrow.Author.Rules.{rules}
use Rattle.printing.proofs.put_accepted.Goals as goal

pub returns : goal.returns
returns c = search (rules, accepted_put)
