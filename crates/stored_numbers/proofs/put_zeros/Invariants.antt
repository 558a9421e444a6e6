use Prim.Native.Nat.{◌-◌}
use Rattle.stored_numbers.specs.inner.Yet.{Yet}
use lib.IntN.{pos}
use lib.ListN.{replicate}
use Rattle.stored_numbers.proofs.put_zeros.Given as goal

abbrev pub invariant-loop-i : goal.invariant-loop-i
invariant-loop-i l = Yet l.initial.out l.from (replicate l.n (pos 0)) l.out l.at (replicate (l.n - l._i) (pos 0))
