-- What is left to count is the rest of the range.
use Prim.Native.Nat.{◌+◌, ◌-◌}
use mathlib.Core.Path.{◌≡◌}
use Rattle.calendar.proofs.Stretches.{joint_at}
use Rattle.calendar.proofs.Walk.{available_at}
use Rattle.calendar.proofs.Calendars.joint_available_ms.Given as goal

abbrev pub invariant-loop-t : goal.invariant-loop-t
invariant-loop-t l =
    l.sum + available_at (joint_at l.self.windows.now l.self.places.now) l.t l.e ≡ available_at (joint_at l.self.windows.now l.self.places.now) l.a l.e

abbrev pub decreases-loop-t : goal.decreases-loop-t
decreases-loop-t l = l.e - l.t
