use Prim.Native.Nat.{◌*◌, ◌≤◌}
use mathlib.Core.Path.{◌≡◌}
use mathlib.Core.List.{map}
use lib.IntN.{pos}
use lib.ListN.{take}
use lib.Signed.{lt_z}
use Rattle.load.specs.Load.{load_of}
use Rattle.load.specs.inner.Lent.{meant}
use Rattle.load.proofs.bookings.load_at.Given as goal

abbrev pub invariant-loop-b : goal.invariant-loop-b
invariant-loop-b l = (l.load ≤ l.b-index * 1000000) × (l.load ≡ load_of lt_z (map meant (take l.b-index l.b-items)) (pos l.t))
