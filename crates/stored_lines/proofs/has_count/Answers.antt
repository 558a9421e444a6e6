use Rattle.stored_lines.proofs.FormLaws.{has_more, has_none}
use borrow.Author.Rules.{rules}
use Rattle.stored_lines.proofs.has_count.Goals as goal

pub returns-then-count_of-gt0 : goal.returns-then-count_of-gt0
returns-then-count_of-gt0 c = search (rules, has_more)

pub returns-else-count_of-gt0 : goal.returns-else-count_of-gt0
returns-else-count_of-gt0 c = search (rules, has_none)
