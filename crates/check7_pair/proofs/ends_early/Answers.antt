use borrow.Author.Rules.{rules}
use Rattle.check7_end_to_start.proofs.Bounds.{end_most}
use Rattle.check7_pair.proofs.ends_early.Goals as goal

pub is_before-requires : goal.is_before-requires
is_before-requires c = (search (rules, end_most), search rules, search rules)
