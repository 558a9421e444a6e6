use Prim.Native.Nat.{◌≤◌}
use mathlib.Core.Path.{◌≡◌}
use lib.ListN.{length}
use Rattle.loops.specs.Range.{collect}
use Rattle.calendar.specs.Clock.{clock}
use Rattle.findings.specs.inner.Told.{so_far, tell}
use Rattle.model.specs.Sheet.{sheet}
use Rattle.model.specs.Constraint.{constraint_at}
use Rattle.definition.specs.CheckConstraints.{check_constraint_at}
use Rattle.check9_constraints.proofs.check_constraints.Given as goal

abbrev pub invariant-loop-k : goal.invariant-loop-k
invariant-loop-k l =
    (so_far l.found ≡ tell (so_far l.initial.found) (collect (check_constraint_at clock (sheet l.rows)) l.k))
    × (l.place ≡ length (collect (constraint_at (sheet l.rows)) l.k))
    × (l.place ≤ l.k)
