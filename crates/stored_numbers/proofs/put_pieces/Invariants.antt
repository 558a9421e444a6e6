use Prim.Native.Nat.{◌-◌}
use Rattle.stored_numbers.specs.inner.Gives.{piece_as}
use Rattle.stored_numbers.specs.inner.Yet.{Yet}
use Rattle.stored_numbers.specs.inner.Numbers.{times}
use Rattle.stored_numbers.proofs.put_pieces.Given as goal

abbrev pub invariant-loop-i : goal.invariant-loop-i
invariant-loop-i l = Yet l.initial.out l.from (times l.n (piece_as l.piece l.fields)) l.out l.at (times (l.n - l._i) (piece_as l.piece l.fields))
