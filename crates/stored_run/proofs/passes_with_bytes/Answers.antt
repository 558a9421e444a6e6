use Rattle.stored_run.proofs.RoomLaws.{gathered_front}
use Rattle.stored_run.proofs.passes_with_bytes.Goals as goal

pub returns : goal.returns
returns g c = rw (gathered_front _ c.gather_bytes.ensures.value c.gather_bytes.ensures.out_after c.in_ok-bytes.ensures) at c.passes_with_numbers.ensures
