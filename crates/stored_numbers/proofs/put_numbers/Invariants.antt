use Rattle.std.proofs.Common.{map}
use Rattle.text_fields.specs.Parts.{parts_left}
use Rattle.text_line.specs.Line.{value_of}
use Rattle.stored_numbers.specs.inner.Yet.{Yet}
use Rattle.stored_numbers.specs.inner.Numbers.{numbers_in}
use Rattle.stored_numbers.proofs.put_numbers.Given as goal

abbrev pub invariant-loop-field : goal.invariant-loop-field
invariant-loop-field l = Yet l.initial.out l.from (numbers_in l.fields) l.out l.at (map value_of (parts_left l.field-iterator))
