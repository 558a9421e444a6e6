use borrow.Author.Rules.{rules}
use Rattle.check7_end_to_start.proofs.Bounds.{start_most, end_most}
use Rattle.check7_end_to_start.proofs.starts_early.Goals as goal

pub is_before-requires : goal.is_before-requires
is_before-requires c = search (rules, start_most, end_most)
