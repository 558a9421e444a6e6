use Rattle.std.proofs.Common.{◌≡◌}
use Rattle.std.specs.Iterator.Adapters.{take_source, take_count}
use Rattle.std.specs.Slice.Iter.{chunks_rest, chunks_size}
use Rattle.printing.proofs.RestLaws.{Printing}
use Rattle.printing.proofs.put_findings.Given as goal

abbrev pub invariant-loop-line : goal.invariant-loop-line
invariant-loop-line l =
    (chunks_size (take_source l.line-iterator) ≡ 4)
    × Printing l.initial.out l.from l.found 4 l.n l.out l.at (chunks_rest (take_source l.line-iterator)) (take_count l.line-iterator)
