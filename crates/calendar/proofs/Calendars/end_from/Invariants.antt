-- From each place of the walk the end is the one asked for.
use Prim.Native.Nat.{◌-◌}
use Rattle.calendar.proofs.Stretches.{joint_at}
use Rattle.calendar.proofs.Walk.{EndInv}
use Rattle.calendar.specs.inner.Scan.{last_instant}
use Rattle.calendar.proofs.Calendars.end_from.Given as goal

abbrev pub invariant-loop-t : goal.invariant-loop-t
invariant-loop-t l = EndInv (joint_at l.self.windows.now l.self.places.now) last_instant l.start l.work l.t l.left

abbrev pub decreases-loop-t : goal.decreases-loop-t
decreases-loop-t l = last_instant - l.t
