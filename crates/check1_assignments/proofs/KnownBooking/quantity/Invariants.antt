use Prim.Native.Nat.{◌*◌, ◌≤◌}
use mathlib.Core.Path.{◌≡◌}
use mathlib.Core.List.{foldl}
use lib.IntN.{nat_abs}
use Rattle.chains.specs.inner.Left.{front, Left}
use Rattle.rows.specs.Cells.{row_count}
use Rattle.owners.specs.inner.Owners.{owned_by}
use Rattle.check1_assignments.specs.inner.Bookings.{quantities}
use Rattle.check1_assignments.proofs.Summing.{add_at}
use Rattle.check1_assignments.proofs.KnownBooking.quantity.Given as goal

abbrev pub invariant-loop-q : goal.invariant-loop-q
invariant-loop-q l =
    Left (owned_by l.self.rows.now l.self.activity 5) (row_count l.self.rows.now) l.q-iterator
    × (nat_abs l.sum ≤ 1000000 * front (row_count l.self.rows.now) l.q-iterator)
    × (foldl (add_at l.self.rows.now) l.sum l.q-iterator ≡ quantities l.self.rows.now l.self.activity)
