use Prim.Native.Nat.{◌+◌, ◌≤◌}
use mathlib.Core.Path.{◌≡◌}
use mathlib.Core.List.{◌++◌}
use lib.ListN.{length}
use Rattle.loops.specs.Lists.{each}
use Rattle.lent_room.specs.Listed.{listed, behind, past, whole}
use Rattle.chains.specs.inner.Left.{Left}
use Rattle.rows.specs.Cells.{row_count}
use Rattle.sheet.specs.Places.{of_kind}
use Rattle.model.specs.Sheet.{sheet}
use Rattle.load.specs.Load.{bookings_on}
use Rattle.load.specs.inner.Gathering.{booking_on}
use Rattle.load.specs.inner.Lent.{lent}
use Rattle.load.proofs.bookings.gather_bookings.Given as goal

abbrev pub invariant-loop-k : goal.invariant-loop-k
invariant-loop-k l =
    Left (of_kind l.rows 23) (row_count l.rows) l.k-iterator
    × (lent l.bookings ++ each (booking_on l.rows l.x) l.k-iterator ≡ bookings_on (sheet l.rows) l.x)
    × (length (listed l.bookings) + length l.k-iterator ≤ 800)
    × (behind l.bookings ≡ past (length (listed l.bookings)) (whole l.fn.bookings))
