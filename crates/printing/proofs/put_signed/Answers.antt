use Rattle.printing.proofs.SignLaws.{wrote_minus, wrote_plain}
use borrow.Author.Rules.{rules}
use Rattle.printing.proofs.put_signed.Goals as goal

pub returns-then-z-lt0 : goal.returns-then-z-lt0
returns-then-z-lt0 c = search (rules, wrote_minus)

pub returns : goal.returns
returns c = search (rules, wrote_plain)
