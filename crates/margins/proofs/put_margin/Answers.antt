use borrow.Author.Rules.{rules}
use Rattle.margins.proofs.Lines.{wrote_three}
use Rattle.margins.proofs.put_margin.Goals as goal

pub returns : goal.returns
returns c = search (rules, wrote_three)
