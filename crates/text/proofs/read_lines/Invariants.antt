use Rattle.text_fields.specs.Parts.{parts_left}
use Rattle.text.proofs.TextLaws.{LinesRead}
use Rattle.text.proofs.read_lines.Given as goal

abbrev pub invariant-loop-next : goal.invariant-loop-next
invariant-loop-next l = LinesRead l.text l.lent l.initial.rows l.rows l.line (parts_left l.next-iterator) l.place
