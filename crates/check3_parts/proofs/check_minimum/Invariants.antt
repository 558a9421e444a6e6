use mathlib.Core.Path.{◌≡◌}
use Rattle.loops.specs.Range.{collect}
use Rattle.findings.specs.inner.Told.{so_far, tell}
use Rattle.check3_parts.specs.inner.Booked.{repeated}
use Rattle.check3_parts.proofs.check_minimum.Given as goal

abbrev pub invariant-loop : goal.invariant-loop
invariant-loop l = so_far l.found ≡ tell (so_far l.initial.found) (collect (repeated l.short) l.counter)
