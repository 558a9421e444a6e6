use Rattle.text_fields.specs.Parts.{parts_left}
use Rattle.text_line.proofs.FieldLaws.{FieldsRead}
use Rattle.text_line.proofs.read_fields.Given as goal

abbrev pub invariant-loop-field : goal.invariant-loop-field
invariant-loop-field l = FieldsRead l.line l.initial.rows l.base l.rows (parts_left l.field-iterator) l.count l.good
