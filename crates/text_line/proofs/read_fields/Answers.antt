use Rattle.std.proofs.Common.{rules}
use Rattle.text_line.proofs.FieldLaws.{field_fits, count_fits, fields_more, all_spelled, all_counted}
use Rattle.text_line.proofs.read_fields.Goals as goal
use Rattle.text_line.proofs.read_fields.Goals.{then-good, else-good}

pub overflow_add-base : goal.overflow_add-base
overflow_add-base c = search (rules, field_fits)

pub overflow_add-count : goal.overflow_add-count
overflow_add-count c = search (rules, count_fits)

pub loop-field-preserved : goal.loop-field-preserved
loop-field-preserved c =
    fields_more _ _ _ _ _ _ _ c.loop-field.invariant c.in-Some.ensures.steps
    (elim c.if-good.branch [
      | then-good w ↦ search rules
      | else-good w ↦ search rules
    ])
    (search rules)

pub returns-clause-good_value : goal.returns-clause-good_value
returns-clause-good_value c =
    let e = c.in-None.ensures.steps in
    (all_spelled _ _ _ _ _ _ _ c.loop-field.invariant e.0, all_counted _ _ _ _ _ _ _ c.loop-field.invariant e.0)
