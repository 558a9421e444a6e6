use Rattle.std.proofs.Common.{arith}
use Rattle.lent_room.proofs.Storing.{put_stored}
use Rattle.line_buffer.proofs.store.Goals as goal

pub returns : goal.returns
returns c = put_stored _ _ _ _ _ c.copy_from_slice.ensures.after (omega arith) c.requires
