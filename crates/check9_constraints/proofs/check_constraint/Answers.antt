use borrow.Author.Rules.{rules}
use Rattle.check9_constraints.proofs.ConstraintRows.{none_told}
use Rattle.check9_constraints.proofs.check_constraint.Goals as goal

pub returns-else-is_of_kind-3 : goal.returns-else-is_of_kind-3
returns-else-is_of_kind-3 c = search (rules, none_told)
