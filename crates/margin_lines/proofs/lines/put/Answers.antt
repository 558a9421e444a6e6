use Rattle.margin_lines.proofs.Told.{margin_read}
use borrow.Author.Rules.{rules}
use Rattle.margin_lines.proofs.lines.put.Goals as goal

pub returns : goal.returns
returns c = margin_read _ _ (search rules) (search rules) (search rules) (search rules)
