use Rattle.std.proofs.Common.{rules, arith}
use Rattle.check3_parts.proofs.total_work.Goals as goal

pub sum_of-requires-clause-steady : goal.sum_of-requires-clause-steady
sum_of-requires-clause-steady c = (λ w. w, record { gives = λ w r p. search rules; small = λ w h. grind arith })
