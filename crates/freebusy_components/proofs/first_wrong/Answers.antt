use Rattle.std.proofs.Common.{◌≡◌, ◌∙◌, ap, arith, inl}
use Rattle.freebusy_lines.specs.Lines.{unfolded, sent_lines}
use Rattle.freebusy_lines.specs.inner.Sent.{lines_left}
use Rattle.freebusy_components.proofs.WalkLaws.{few, unfolding_start, unfolding_on, unfolding_end, wrong_start, wrong_on, wrong_end}
use borrow.Author.Rules.{rules}
use Rattle.freebusy_components.proofs.first_wrong.Goals as goal

pub loop-p-init-derived : goal.loop-p-init-derived
loop-p-init-derived c =
    let i = c.into_iter-p-iterator.ensures.into_iter_gives in
    let e : lines_left c.into_iter-p-iterator.result.iter ≡ sent_lines c.args.text.now =
    ap (λ x. lines_left x.iter) i ∙ ap lines_left c.enumerate-p-items.ensures.source ∙ c.new.ensures in
    let k = ap (λ x. x.count) i ∙ c.enumerate-p-items.ensures.count in
    ((tt, tt, inl (omega (arith, few _ e, k))), tt)

pub loop-p-init : goal.loop-p-init
loop-p-init c =
    let i = c.into_iter-p-iterator.ensures.into_iter_gives in
    let e : lines_left c.into_iter-p-iterator.result.iter ≡ sent_lines c.args.text.now =
    ap (λ x. lines_left x.iter) i ∙ ap lines_left c.enumerate-p-items.ensures.source ∙ c.new.ensures in
    let k = ap (λ x. x.count) i ∙ c.enumerate-p-items.ensures.count in
    (unfolding_start _ _ c.requires e, rw k (wrong_start _ e))

pub loop-p-preserved : goal.loop-p-preserved
loop-p-preserved c =
    let e = c.in-Some.ensures.steps in
    let l : c.front_or.result.now ≡ unfolded c.in-Some.sent.bytes.now = c.front_or.ensures ∙ c.unfold-n.ensures.value in
    (unfolding_on c.loop-p.invariant.0 e.0 (search rules) (search rules), wrong_on _ _ _ c.loop-p.invariant.1 e.0 l c.in-Some.p e.1 (search rules) (search rules) e.2)

pub returns-clause-result_value : goal.returns-clause-result_value
returns-clause-result_value c = wrong_end _ _ _ c.loop-p.invariant.1 c.in-None.ensures.steps.0.0 c.lesser.ensures

pub returns-clause-space_after : goal.returns-clause-space_after
returns-clause-space_after c = unfolding_end c.loop-p.invariant.0 c.in-None.ensures.steps.0.0
