use Rattle.std.proofs.Common.{ap, sym, ◌∙◌, arith}
use Rattle.std.specs.Iterator.Adapters.{take_source, take_count}
use Rattle.std.specs.Slice.Iter.{chunks_exact_rest, chunks_exact_size}
use Rattle.loops.proofs.StoreLaws.{wrote_within}
use Rattle.printing.proofs.ChunkLaws.{chunked_none, chunked_next}
use Rattle.margins.specs.inner.Bytes.{line_bytes}
use Rattle.margins.proofs.Lines.{wrote_lines}
use Rattle.margins.proofs.put_margins.Goals as goal

pub loop-line-init : goal.loop-line-init
loop-line-init c =
    let i = c.into_iter-line-iterator.ensures.into_iter_gives in
    let s = ap take_source i ∙ c.take-line-items.ensures.source in
    let rest = ap chunks_exact_rest s ∙ c.chunks_exact.ensures.rest in
    (ap chunks_exact_size s ∙ c.chunks_exact.ensures.size, chunked_none line_bytes 3 _ 0 _ _ (omega arith) rest (ap take_count i ∙ c.take-line-items.ensures.count))

pub put_margin-at-requires : goal.put_margin-at-requires
put_margin-at-requires c = (wrote_within _ c.loop-line.invariant.1.wrote, c.in-Some.ensures.steps.0.1.1 ∙ c.loop-line.invariant.0)

pub loop-line-preserved : goal.loop-line-preserved
loop-line-preserved c =
    let e = c.in-Some.ensures.steps in
    let w = c.loop-line.invariant in
    (e.0.0 ∙ w.0, chunked_next w.1 e.0.1.0 (e.0.1.1 ∙ w.0) (sym e.1) c.put_margin-at.ensures)

pub returns : goal.returns
returns c =
    let w = c.loop-line.invariant in
    wrote_lines _ _ c.requires.1 c.requires.0 w.1 (λ d. omega (arith, (c.in-None.ensures.steps d).1.0, w.0))
