use Rattle.std.proofs.Common.{rules, arith}
use Rattle.loops.proofs.ChainLaws.{links_start, links_done}
use Rattle.owners.specs.inner.Owners.{owned_key}
use Rattle.owners.proofs.Owning.{owned_again}
use Rattle.owners.proofs.Tables.{owned_below}
use Rattle.owners.proofs.owned_into.Goals as goal

pub loop-i-init : goal.loop-i-init
loop-i-init c = rw c.clear.ensures (links_start (owned_key c.args.rows.now) 8010 c.row_count-n.result (search rules) (omega arith))

pub link-requires : goal.link-requires
link-requires c = search (rules, owned_below)

pub loop-i-preserved : goal.loop-i-preserved
loop-i-preserved c = search (rules, owned_again)

pub returns : goal.returns
returns c = search (rules, links_done)
