use Rattle.std.proofs.Common.{sym, ap, ◌∙◌, arith}
use Rattle.text_fields.specs.Parts.{parts_left}
use Rattle.stored_lines.proofs.LineLaws.{judges_start, judges_here, judges_later, later_fits, judges_nowhere}
use Rattle.stored_lines.proofs.judging_at.Goals as goal

pub loop-line-init : goal.loop-line-init
loop-line-init c = judges_start c.args.list.now c.args.from (omega arith) (ap parts_left c.into_iter-line-iterator.ensures.into_iter_gives ∙ c.new-line-items.ensures)

pub returns-then-is_judging : goal.returns-then-is_judging
returns-then-is_judging c = judges_here _ _ _ c.loop-line.invariant c.in-Some.ensures.steps (sym c.is_judging.ensures ∙ c.if-is_judging.true)

pub overflow_add-at-in-loop-line : goal.overflow_add-at-in-loop-line
overflow_add-at-in-loop-line c = later_fits _ _ _ c.loop-line.invariant c.in-Some.ensures.steps (omega arith)

pub loop-line-preserved : goal.loop-line-preserved
loop-line-preserved c = judges_later _ _ _ c.loop-line.invariant c.in-Some.ensures.steps (sym c.is_judging.ensures ∙ c.if-is_judging.false)

pub returns : goal.returns
returns c = judges_nowhere _ _ _ c.loop-line.invariant (c.in-None.ensures.steps.0)
