use Rattle.stored_run.proofs.Reading.{bytes_all, bytes_none, said_of_lines}
use Rattle.stored_run.proofs.RoomLaws.{gathered_front}
use Rattle.stored_run.proofs.is_passed.Goals as goal

pub returns-then-reads : goal.returns-then-reads
returns-then-reads g c =
    said_of_lines c.args.reads c.args.lines.now _ c.args.line.now _ _ _ c.passes_with_bytes.result c.letter_of.ensures
    (gathered_front _ c.judging_numbers.ensures.value c.judging_numbers.ensures.out_after c.in_ok-first_of.ensures)
    (bytes_all c.args.reads c.args.lines.now c.if-reads.true) c.passes_with_bytes.ensures

pub returns-else-reads : goal.returns-else-reads
returns-else-reads g c =
    said_of_lines c.args.reads c.args.lines.now _ c.args.line.now _ _ _ c.passes_with_numbers.result c.letter_of.ensures
    (gathered_front _ c.judging_numbers.ensures.value c.judging_numbers.ensures.out_after c.in_ok-first_of.ensures)
    (bytes_none c.args.reads c.args.lines.now c.if-reads.false) c.passes_with_numbers.ensures
