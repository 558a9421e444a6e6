use Rattle.std.proofs.Common.{map, drop}
use Rattle.stored_numbers.specs.inner.Yet.{Yet}
use Rattle.stored_bytes.specs.inner.Bytes.{meant}
use Rattle.stored_bytes.proofs.put_bytes.Given as goal

abbrev pub invariant-loop-x : goal.invariant-loop-x
invariant-loop-x l = Yet l.initial.out l.from (map meant l.s) l.out l.at (map meant (drop l.x-index l.s))
