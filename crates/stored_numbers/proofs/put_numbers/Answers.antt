use Rattle.std.proofs.Common.{rules}
use Rattle.text_line.specs.Line.{value_of}
use Rattle.stored_numbers.proofs.GivesLaws.{map_more}
use Rattle.stored_numbers.proofs.PutLaws.{wrote_back}
use Rattle.stored_numbers.proofs.put_numbers.Goals as goal

pub loop-field-preserved : goal.loop-field-preserved
loop-field-preserved c = map_more c.in-Some.ensures.steps value_of c.loop-field.invariant (search (rules, wrote_back))
