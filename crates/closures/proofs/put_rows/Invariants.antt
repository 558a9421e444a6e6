use Rattle.std.proofs.Common.{◌≡◌}
use Rattle.std.specs.Iterator.Adapters.{take_source, take_count}
use Rattle.std.specs.Slice.Iter.{chunks_exact_rest, chunks_exact_size}
use Rattle.printing.proofs.ChunkLaws.{Chunked}
use Rattle.closures.proofs.Printing.{row_bytes}
use Rattle.closures.proofs.put_rows.Given as goal

abbrev pub invariant-loop-row : goal.invariant-loop-row
invariant-loop-row l =
    (chunks_exact_size (take_source l.row-iterator) ≡ 10)
    × Chunked row_bytes 10 l.initial.out 0 l.rows l.n l.out l.at (chunks_exact_rest (take_source l.row-iterator)) (take_count l.row-iterator)
