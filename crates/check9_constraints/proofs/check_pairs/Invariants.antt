use mathlib.Core.Path.{◌≡◌}
use lib.ListN.{length}
use Rattle.findings.specs.inner.Told.{so_far, tell}
use Rattle.check9_constraints.specs.inner.Bookings.{pairs_of}
use Rattle.check9_constraints.proofs.check_pairs.Given as goal

abbrev pub invariant-loop-a : goal.invariant-loop-a
invariant-loop-a l = tell (so_far l.found) (pairs_of l.rows l.f l.rest) ≡ tell (so_far l.initial.found) (pairs_of l.rows l.f l.bookings)

abbrev pub decreases-loop-a : goal.decreases-loop-a
decreases-loop-a l = length l.rest
