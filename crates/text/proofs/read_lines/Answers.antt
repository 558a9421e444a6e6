use Rattle.std.proofs.Common.{sym, ap, ◌∙◌}
use borrow.Author.Rules.{rules}
use Rattle.text_fields.specs.Parts.{parts_left}
use Rattle.text.proofs.TextLaws.{some_part, lines_none, end_answer, end_rows, open_answer, wrong_answer, wrong_rows, full_answer, full_rows, lines_more}
use Rattle.text.proofs.read_lines.Goals as goal

pub returns-in_default : goal.returns-in_default
returns-in_default c = absurd (some_part _ (sym c.new-parts.ensures ∙ c.in_default.ensures.steps.0))

pub loop-next-init : goal.loop-next-init
loop-next-init c = rw (ap parts_left c.into_iter-next-iterator.ensures.into_iter_gives) (lines_none _ _ _ (sym c.new-parts.ensures ∙ c.in-Some.ensures.steps))

pub returns-in-Err : goal.returns-in-Err
returns-in-Err c =
    let w = c.loop-next.invariant in
    let n = c.in-Some-next.ensures.steps in
    record {
      value = wrong_answer _ _ _ _ _ _ _ w n c.read_line.ensures.value c.in-Err.reason c.at.ensures c.in-Err.is;
      rows_after = wrong_rows _ _ _ _ _ _ _ w n c.read_line.ensures.value c.read_line.ensures.rows_after c.in-Err.reason c.in-Err.is;
    }

pub returns-then-lent-place : goal.returns-then-lent-place
returns-then-lent-place c =
    let w = c.loop-next.invariant in
    let n = c.in-Some-next.ensures.steps in
    record {
      value = full_answer _ _ _ _ _ _ _ w n c.read_line.ensures.value c.at-then-lent-place.ensures c.in_default-read_line.is c.if-lent-place.true;
      rows_after = full_rows _ _ _ _ _ _ _ w n c.read_line.ensures.value c.read_line.ensures.rows_after c.in_default-read_line.is c.if-lent-place.true;
    }

pub loop-next-preserved : goal.loop-next-preserved
loop-next-preserved c =
    lines_more _ _ _ _ _ _ _ c.loop-next.invariant c.in-Some-next.ensures.steps c.read_line.ensures.value c.read_line.ensures.rows_after c.in_default-read_line.is c.if-lent-place.false

pub returns-then-is_empty : goal.returns-then-is_empty
returns-then-is_empty c = search (rules, end_answer, end_rows)

pub returns-else-is_empty : goal.returns-else-is_empty
returns-else-is_empty c = search (rules, open_answer, end_rows)
