use Prim.Native.Nat.{◌+◌}
use mathlib.Core.Path.{◌≡◌}
use Rattle.chains.specs.inner.Left.{Left}
use Rattle.loops.specs.Lists.{count_of}
use Rattle.owners.specs.inner.Owners.{owned_by}
use Rattle.model.specs.Sheet.{sheet}
use Rattle.model.specs.Schedule.{assignments_below}
use Rattle.model.specs.inner.Records.{activity_of, assignment_of}
use Rattle.definition.specs.CheckAssignments.{uses}
use Rattle.check1_assignments.specs.inner.Bookings.{takes_unit}
use Rattle.check1_assignments.proofs.KnownBooking.uses_before.Given as goal

abbrev pub invariant-loop-j : goal.invariant-loop-j
invariant-loop-j l =
    Left (owned_by l.self.rows.now l.self.activity 23) l.self.row l.j-iterator
    × (l.used + count_of (takes_unit l.self.rows.now l.self.activity l.self.row) l.j-iterator ≡ uses (sheet l.self.rows.now) (activity_of l.self.rows.now l.self.activity) (assignment_of l.self.rows.now l.self.row) (assignments_below (sheet l.self.rows.now) l.self.row))
