use mathlib.Core.Path.{◌≡◌}
use mathlib.Core.List.{foldl}
use lib.ListN.{drop}
use Rattle.loops.specs.Lists.{each}
use Rattle.findings.specs.inner.Told.{so_far, tell, telling}
use Rattle.check9_constraints.specs.inner.Bookings.{overlap_of}
use Rattle.check9_constraints.proofs.check_later.Given as goal

abbrev pub invariant-loop-b : goal.invariant-loop-b
invariant-loop-b l =
    foldl (telling (overlap_of l.rows l.f l.a)) (so_far l.found) (drop l.b-index l.later) ≡ tell (so_far l.initial.found) (each (overlap_of l.rows l.f l.a) l.later)
