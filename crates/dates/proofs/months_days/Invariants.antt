use Rattle.std.proofs.Common.{◌≡◌, ◌*◌, ◌≤◌}
use Rattle.dates.specs.Calendar.{months_days}
use Rattle.dates.proofs.months_days.Given as goal

abbrev pub invariant-loop-k : goal.invariant-loop-k
invariant-loop-k l = (l.days ≡ months_days l.y l.k) × (l.days ≤ 31 * l.k)
