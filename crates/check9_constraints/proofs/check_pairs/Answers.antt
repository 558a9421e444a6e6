use mathlib.Core.Path.{◌∙◌}
use Rattle.check9_constraints.proofs.Pairs.{pairs_turn, pairs_end}
use Rattle.check9_constraints.proofs.check_pairs.Goals as goal

pub loop-a-preserved : goal.loop-a-preserved
loop-a-preserved c = pairs_turn _ _ _ c.in-Some.ensures.cases.0 c.check_later.ensures ∙ c.loop-a.invariant

pub returns : goal.returns
returns c = pairs_end _ _ _ _ c.in_default.ensures.cases c.loop-a.invariant
