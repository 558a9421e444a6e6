use Rattle.text_fields.specs.Parts.{parts, parts_left}
use Rattle.loops.specs.Lists.{each}
use Rattle.stored_numbers.specs.inner.Yet.{Yet}
use Rattle.stored_bytes.specs.inner.Bytes.{bytes_of}
use Rattle.stored_bytes.proofs.put_texts.Given as goal

abbrev pub invariant-loop-line : goal.invariant-loop-line
invariant-loop-line l = Yet l.initial.out 0 (each bytes_of (parts 10 l.lines)) l.out l.at (each bytes_of (parts_left l.line-iterator))
