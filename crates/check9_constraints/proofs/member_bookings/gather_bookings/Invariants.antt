use Prim.Native.Nat.{◌+◌, ◌≤◌}
use mathlib.Core.Path.{◌≡◌}
use mathlib.Core.List.{◌++◌}
use lib.ListN.{length}
use Rattle.loops.specs.Lists.{each}
use Rattle.lent_room.specs.Listed.{listed, behind, past}
use Rattle.check9_constraints.specs.inner.Bookings.{booking_of, bookings_of}
use Rattle.check9_constraints.proofs.member_bookings.gather_bookings.Given as goal

abbrev pub invariant-loop-k : goal.invariant-loop-k
invariant-loop-k l =
    (listed l.list ++ each (booking_of l.rows l.resource) l.k-iterator ≡ bookings_of l.rows l.place l.resource)
    × (length (listed l.list) + length l.k-iterator ≤ 800)
    × (behind l.list ≡ past (length (listed l.list)) (behind l.initial.list))
