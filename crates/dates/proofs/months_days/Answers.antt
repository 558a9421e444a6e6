use Rattle.std.proofs.Common.{arith, refl}
use Rattle.dates.specs.Calendar.{months_days}
use Rattle.dates.proofs.DayLaws.{months_more, month_most}
use Rattle.dates.proofs.months_days.Goals as goal

pub loop-k-init : goal.loop-k-init
unfolding months_days
loop-k-init c = (refl, omega arith)

pub overflow_add-days : goal.overflow_add-days
overflow_add-days c = record { fits = omega (arith, c.month_days-days.ensures, month_most c.args.y c.loop-k.k) }

pub loop-k-preserved : goal.loop-k-preserved
loop-k-preserved c = (months_more _ _ _ _ c.loop-k.invariant.0 c.month_days-days.ensures, omega (arith, c.month_days-days.ensures, month_most c.args.y c.loop-k.k))
