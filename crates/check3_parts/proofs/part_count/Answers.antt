use Rattle.std.proofs.Common.{rules, arith}
use Rattle.check3_parts.proofs.part_count.Goals as goal

pub sum_of-requires-clause-steady : goal.sum_of-requires-clause-steady
sum_of-requires-clause-steady c = (λ _. 1, record { gives = λ w r p. search rules; small = λ w h. grind arith })
