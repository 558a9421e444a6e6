use Rattle.std.proofs.Common.{◌≡◌, ◌∙◌, ap, arith, inl}
use Rattle.freebusy_lines.specs.Lines.{unfolded, sent_lines}
use Rattle.freebusy_lines.specs.inner.Sent.{lines_left}
use Rattle.freebusy_components.proofs.WalkLaws.{few, unfolding_start, unfolding_on, unfolding_end}
use Rattle.freebusy.proofs.StepLaws.{text_start, text_on, text_end}
use borrow.Author.Rules.{rules}
use Rattle.freebusy.proofs.Lent.read_periods.Goals as goal

pub loop-p-init-derived : goal.loop-p-init-derived
loop-p-init-derived c =
    let i = c.into_iter-p-iterator.ensures.into_iter_gives in
    let e : lines_left c.into_iter-p-iterator.result.iter ≡ sent_lines c.args.text.now =
    ap (λ x. lines_left x.iter) i ∙ ap lines_left c.enumerate-p-items.ensures.source ∙ c.new.ensures in
    let k = ap (λ x. x.count) i ∙ c.enumerate-p-items.ensures.count in
    ((tt, tt, inl (omega (arith, few _ e, k))), tt)

pub loop-p-init : goal.loop-p-init
loop-p-init c =
    let i = c.into_iter-p-iterator.ensures.into_iter_gives in
    let e : lines_left c.into_iter-p-iterator.result.iter ≡ sent_lines c.args.text.now =
    ap (λ x. lines_left x.iter) i ∙ ap lines_left c.enumerate-p-items.ensures.source ∙ c.new.ensures in
    let k = ap (λ x. x.count) i ∙ c.enumerate-p-items.ensures.count in
    (unfolding_start _ _ (search rules) e, rw k (text_start _ _ _ _ e))

pub loop-p-preserved : goal.loop-p-preserved
loop-p-preserved c =
    let e = c.in-Some.ensures.steps in
    let l : c.front_or-l.result.now ≡ unfolded c.in-Some.sent.bytes.now = c.front_or-l.ensures ∙ c.unfold-n.ensures.value in
    (unfolding_on c.loop-p.invariant.0 e.0 (search rules) (search rules), text_on _ _ c.loop-p.invariant.1 e.0 l c.in-Some.p e.1 (search rules) (search rules) e.2 (search rules))

pub returns : goal.returns
returns c =
    let e = c.in-None.ensures.steps.0.0 in
    record {
      read_on = text_end _ _ c.loop-p.invariant.1 e;
      space_after = unfolding_end c.loop-p.invariant.0 e;
    }
