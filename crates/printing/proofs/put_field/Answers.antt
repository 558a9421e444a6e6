use borrow.Author.Rules.{rules}
use Rattle.printing.proofs.PutLaws.{field_more, field_last}
use Rattle.printing.proofs.put_field.Goals as goal

pub returns-then-c-line : goal.returns-then-c-line
returns-then-c-line c = search (rules, field_more)

pub returns : goal.returns
returns c = search (rules, field_last)
