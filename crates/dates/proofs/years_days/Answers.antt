use native.Mathlib.Omega.{arith}
use Rattle.dates.proofs.DayLaws.{years_closed}
use Rattle.dates.proofs.years_days.Goals as goal

pub returns : goal.returns
returns c = (years_closed _, omega arith)
