use Rattle.text_fields.specs.Parts.{parts, parts_left}
use Rattle.loops.specs.Lists.{each}
use Rattle.stored_numbers.specs.inner.Yet.{Yet}
use Rattle.stored_numbers.specs.inner.Gives.{line_gives}
use Rattle.stored_numbers.proofs.put_lines.Given as goal

abbrev pub invariant-loop-line : goal.invariant-loop-line
invariant-loop-line l = Yet l.initial.out 0 (each (line_gives l.asked) (parts 10 l.lines)) l.out l.at (each (line_gives l.asked) (parts_left l.line-iterator))
