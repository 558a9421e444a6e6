use Rattle.std.proofs.Common.{refl, rules}
use Rattle.stored_run.proofs.RoomLaws.{gathered_front}
use Rattle.stored_run.proofs.passes_with_expected.Goals as goal

pub returns : goal.returns
returns g c = (
  record {
    letter = c.args.case.letter;
    judging = c.args.case.judging;
    numbers = c.args.case.numbers;
    bytes = c.args.case.bytes;
    expected = c.in_ok-expected.expected;
  },
  record {
    letter = refl;
    judging = refl;
    numbers = refl;
    bytes = refl;
    expected = gathered_front _ c.gather_expected.ensures.value c.gather_expected.ensures.out_after c.in_ok-expected.ensures;
  },
  search rules,
)
