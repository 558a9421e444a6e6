use Rattle.std.proofs.Common.{◌≡◌}
use Rattle.std.specs.Iterator.Adapters.{take_source, take_count}
use Rattle.std.specs.Slice.Iter.{chunks_exact_rest, chunks_exact_size}
use Rattle.printing.proofs.ChunkLaws.{Chunked}
use Rattle.margins.specs.inner.Bytes.{line_bytes}
use Rattle.margins.proofs.put_margins.Given as goal

abbrev pub invariant-loop-line : goal.invariant-loop-line
invariant-loop-line l =
    (chunks_exact_size (take_source l.line-iterator) ≡ 3)
    × Chunked line_bytes 3 l.initial.out 0 l.lines l.n l.out l.at (chunks_exact_rest (take_source l.line-iterator)) (take_count l.line-iterator)
