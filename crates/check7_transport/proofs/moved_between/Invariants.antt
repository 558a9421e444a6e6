use Prim.Native.Nat.{◌≤◌}
use mathlib.Core.Path.{◌≡◌}
use mathlib.Core.List.{foldl}
use Rattle.calendar.specs.Clock.{clock}
use Rattle.rows.specs.Cells.{num}
use Rattle.model.specs.Sheet.{sheet}
use Rattle.model.specs.Resource.{transport_between}
use Rattle.definition.specs.CheckPrecedence.{runs_on_all}
use Rattle.check7_transport.proofs.Longest.{to_step}
use Rattle.check7_transport.proofs.moved_between.Given as goal

abbrev pub invariant-loop-i : goal.invariant-loop-i
invariant-loop-i l =
    (foldl (to_step l.rows (runs_on_all clock (sheet l.rows) (num l.rows l.o 1))) l.t l.i-iterator
    ≡ transport_between (sheet l.rows) (runs_on_all clock (sheet l.rows) (num l.rows l.o 1)) (runs_on_all clock (sheet l.rows) (num l.rows l.p 1)))
    × (l.t ≤ 4000000000000)
