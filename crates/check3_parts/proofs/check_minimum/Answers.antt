use borrow.Author.Rules.{rules}
use native.Mathlib.Omega.{arith}
use Rattle.check3_parts.proofs.Sums.{short_told}
use Rattle.check3_parts.proofs.check_minimum.Goals as goal

pub returns : goal.returns
returns c = short_told _ _ _ _ (omega arith) c.short_count-end.ensures c.num-2.ensures.value (search rules) c.loop.invariant
