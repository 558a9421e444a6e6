use borrow.Author.Rules.{rules}
use Rattle.check2_time_only.proofs.Told.{all_told}
use Rattle.check2_time_only.proofs.check_time_only.Goals as goal

pub returns : goal.returns
returns c = search (rules, all_told)
