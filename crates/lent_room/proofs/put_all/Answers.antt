use Rattle.std.proofs.Common.{arith}
use Rattle.lent_room.proofs.Storing.{wrote_cut}
use Rattle.lent_room.proofs.put_all.Goals as goal

pub returns : goal.returns
returns g c = wrote_cut c.args.out.now c.args.xs.now c.copy_from_slice.new.self c.args.at c.min-n.result _ c.requires c.min-n.ensures c.copy_from_slice.ensures.after (omega arith)
