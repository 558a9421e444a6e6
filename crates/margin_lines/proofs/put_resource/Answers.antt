use Rattle.margin_lines.proofs.Told.{peak_within, cap_within}
use borrow.Author.Rules.{rules}
use Rattle.margin_lines.proofs.put_resource.Goals as goal

pub left_of-requires : goal.left_of-requires
left_of-requires c = (search (rules, cap_within), search (rules, peak_within))
