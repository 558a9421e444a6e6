use Rattle.std.proofs.Common.{ap, ◌∙◌}
use Rattle.std.specs.Iterator.Adapters.{take_source, take_count}
use Rattle.std.specs.Slice.Iter.{chunks_rest, chunks_size}
use Rattle.loops.proofs.StoreLaws.{wrote_within}
use Rattle.printing.proofs.RestLaws.{printing_none, printing_next, printing_all}
use Rattle.printing.proofs.put_findings.Goals as goal

pub loop-line-init : goal.loop-line-init
loop-line-init c =
    let i = c.into_iter-line-iterator.ensures.into_iter_gives in
    let s = ap take_source i ∙ c.take-line-items.ensures.source in
    (ap chunks_size s ∙ c.chunks.ensures.size, printing_none _ _ _ 4 c.requires (ap chunks_rest s ∙ c.chunks.ensures.rest) (ap take_count i ∙ c.take-line-items.ensures.count))

pub put_line-at-requires : goal.put_line-at-requires
put_line-at-requires c = wrote_within _ c.loop-line.invariant.1.wrote

pub loop-line-preserved : goal.loop-line-preserved
loop-line-preserved c =
    let e = c.in-Some.ensures.steps in
    let w = c.loop-line.invariant in
    (e.0.0 ∙ w.0, printing_next w.1 _ e.0.1.0 (rw w.0 at e.0.1.1) e.1 c.put_line-at.ensures)

pub returns : goal.returns
returns c = printing_all c.loop-line.invariant.1 (λ d. (c.in-None.ensures.steps d).1.0)
