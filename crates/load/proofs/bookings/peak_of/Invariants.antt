use mathlib.Core.Path.{◌≡◌}
use mathlib.Core.List.{map}
use lib.ListN.{take}
use Rattle.loops.specs.Sums.{most}
use Rattle.load.specs.inner.Lent.{meant, lent}
use Rattle.load.proofs.Loads.{load_in}
use Rattle.load.proofs.bookings.peak_of.Given as goal

abbrev pub invariant-loop-b : goal.invariant-loop-b
invariant-loop-b l = l.most ≡ most (load_in (lent l.bookings)) (map meant (take l.b-index l.b-items))
