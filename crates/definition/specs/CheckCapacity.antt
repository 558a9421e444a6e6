-- Check 5: `check_capacity` of scheduler/feasibility.rs. The Rust leaves the order of the resources open; here it is that of the
-- rows of their first bookings.
use Rattle.std.specs.Prelude.{ℕ, List, pos}
use Rattle.std.specs.Int.Signed.{lt_z}
use Rattle.loops.specs.Lists.{given, each}
use Rattle.calendar.specs.Clock.{Clock}
use Rattle.findings.specs.declared.Violation.{Violation}
use Rattle.model.specs.Sheet.{Sheet}
use Rattle.model.specs.Schedule.{capacity_exceeded}
use Rattle.load.specs.Load.{cap_of, peak, booked_resources}

module _ {T : Type 0} (K : Clock T) (s : Sheet T) where
  -- `peak > cap`
  unfoldable pub check_resource : ℕ → List Violation
  check_resource x = given (lt_z (cap_of s x) (pos (peak K s x))) (capacity_exceeded 5 x)

  unfoldable pub check_capacity : List Violation
  check_capacity = each check_resource (booked_resources s)
