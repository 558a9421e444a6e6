use Rattle.std.proofs.Common.{ap, sym, ◌∙◌, arith}
use Rattle.std.specs.Iterator.Adapters.{take_source, take_count}
use Rattle.std.specs.Slice.Iter.{chunks_exact_rest, chunks_exact_size}
use Rattle.loops.proofs.StoreLaws.{wrote_within}
use Rattle.printing.proofs.ChunkLaws.{chunked_none, chunked_next}
use Rattle.closures.proofs.Printing.{row_bytes, wrote_rows}
use Rattle.closures.proofs.put_rows.Goals as goal

pub loop-row-init : goal.loop-row-init
loop-row-init c =
    let i = c.into_iter-row-iterator.ensures.into_iter_gives in
    let s = ap take_source i ∙ c.take-row-items.ensures.source in
    let rest = ap chunks_exact_rest s ∙ c.chunks_exact.ensures.rest in
    (ap chunks_exact_size s ∙ c.chunks_exact.ensures.size, chunked_none row_bytes 10 _ 0 _ _ (omega arith) rest (ap take_count i ∙ c.take-row-items.ensures.count))

pub put_line-at-requires : goal.put_line-at-requires
put_line-at-requires c = wrote_within _ c.loop-row.invariant.1.wrote

pub loop-row-preserved : goal.loop-row-preserved
loop-row-preserved c =
    let e = c.in-Some.ensures.steps in
    let w = c.loop-row.invariant in
    (e.0.0 ∙ w.0, chunked_next w.1 e.0.1.0 (e.0.1.1 ∙ w.0) (sym e.1) c.put_line-at.ensures)

pub returns : goal.returns
returns c =
    let w = c.loop-row.invariant in
    wrote_rows _ _ c.requires.1 c.requires.0 w.1 (λ d. omega (arith, (c.in-None.ensures.steps d).1.0, w.0))
