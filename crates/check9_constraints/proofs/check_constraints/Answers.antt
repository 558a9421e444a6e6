use native.Mathlib.Omega.{arith}
use borrow.Author.Rules.{rules}
use Rattle.check9_constraints.proofs.ConstraintRows.{placed_zero, place_most, place_again, told_zero, told_again, told_all}
use Rattle.check9_constraints.proofs.check_constraints.Goals as goal

pub loop-k-init : goal.loop-k-init
loop-k-init c = (search (rules, told_zero), search (rules, placed_zero), search rules)

pub loop-k-preserved : goal.loop-k-preserved
loop-k-preserved c = (search (rules, told_again), search (rules, place_again), search (rules, place_most))

pub returns : goal.returns
returns c = told_all _ _ _ _ (omega arith) (omega arith) c.row_count-k-end.ensures.value c.loop-k.invariant.0
