use Rattle.std.proofs.Common.{rules, arith}
use Rattle.check3_parts.specs.inner.Measure.{short_of}
use Rattle.check3_parts.proofs.short_count.Goals as goal

pub sum_of-requires-clause-steady : goal.sum_of-requires-clause-steady
sum_of-requires-clause-steady c = (short_of c.args.least, record { gives = λ w r p. search rules; small = λ w h. grind arith })
