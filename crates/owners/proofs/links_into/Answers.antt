use Rattle.std.proofs.Common.{rules}
use Rattle.owners.proofs.Tables.{filling_start, filling_turn, filling_end, own_read, res_read}
use Rattle.owners.proofs.links_into.Goals as goal

pub loop-k-init : goal.loop-k-init
loop-k-init c = search (rules, filling_start)

pub set-requires : goal.set-requires
set-requires c = search (rules, own_read, res_read)

pub loop-k-preserved : goal.loop-k-preserved
loop-k-preserved c = search (rules, filling_turn)

pub returns : goal.returns
returns c = search (rules, filling_end)
