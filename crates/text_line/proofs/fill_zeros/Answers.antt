use mathlib.Core.Path.{◌∙◌}
use borrow.Author.Rules.{rules}
use Rattle.text_line.proofs.LineLaws.{zero_more}
use Rattle.text_line.proofs.fill_zeros.Goals as goal

pub loop-i-preserved : goal.loop-i-preserved
loop-i-preserved c = (search (rules, zero_more), search (rules, ◌∙◌))
