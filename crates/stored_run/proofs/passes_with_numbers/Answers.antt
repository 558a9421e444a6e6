use Rattle.std.proofs.Common.{refl}
use Rattle.stored_run.proofs.Reading.{expected_all, expected_none}
use Rattle.stored_run.proofs.RoomLaws.{gathered_front}
use Rattle.stored_run.proofs.passes_with_numbers.Goals as goal

pub returns-then-reads : goal.returns-then-reads
returns-then-reads g c =
    rw (expected_all c.args.reads c.args.lines.now c.if-reads.true)
    (rw (gathered_front _ c.gather_numbers.ensures.value c.gather_numbers.ensures.out_after c.in_ok-numbers.ensures) at c.passes_with_expected.ensures)

pub returns-else-reads : goal.returns-else-reads
returns-else-reads g c = (
  _,
  record {
    letter = refl;
    judging = refl;
    numbers = gathered_front _ c.gather_numbers.ensures.value c.gather_numbers.ensures.out_after c.in_ok-numbers.ensures;
    bytes = refl;
    expected = expected_none c.args.reads c.args.lines.now c.if-reads.false;
  },
  record { shown = _; shows = refl; says = record { met = c.passes.ensures } },
)
