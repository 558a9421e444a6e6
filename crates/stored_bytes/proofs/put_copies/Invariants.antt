use Rattle.std.proofs.Common.{◌-◌, map}
use Rattle.stored_numbers.specs.inner.Yet.{Yet}
use Rattle.stored_numbers.specs.inner.Numbers.{times}
use Rattle.stored_bytes.specs.inner.Bytes.{meant}
use Rattle.stored_bytes.proofs.put_copies.Given as goal

abbrev pub invariant-loop-i : goal.invariant-loop-i
invariant-loop-i l = Yet l.initial.out l.from (times l.n (map meant l.s)) l.out l.at (times (l.n - l._i) (map meant l.s))
