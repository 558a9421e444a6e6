use Prim.Native.Nat.{◌≤◌}
use mathlib.Core.Path.{◌≡◌}
use mathlib.Core.List.{[], ◌∷◌, foldl}
use Rattle.calendar.specs.Clock.{clock}
use Rattle.chains.specs.inner.Left.{Left}
use Rattle.rows.specs.Cells.{row_count, num}
use Rattle.owners.specs.inner.Owners.{owned_by}
use Rattle.model.specs.Sheet.{sheet}
use Rattle.model.specs.Resource.{transport_between}
use Rattle.definition.specs.CheckPrecedence.{runs_on_all}
use Rattle.check7_transport.proofs.Longest.{from_step}
use Rattle.check7_transport.proofs.moved_to.Given as goal

abbrev pub invariant-loop-i : goal.invariant-loop-i
invariant-loop-i l =
    Left (owned_by l.rows l.o 23) (row_count l.rows) l.i-iterator
    × (foldl (from_step l.rows l.b) l.t l.i-iterator ≡ transport_between (sheet l.rows) (runs_on_all clock (sheet l.rows) (num l.rows l.o 1)) (l.b ∷ []))
    × (l.t ≤ 4000000000000)
