use borrow.Author.Rules.{rules}
use Rattle.sheet.proofs.Naming.{hash_below, filled_start, filled_again, fill_place}
use Rattle.sheet.proofs.kinds_into.Goals as goal

pub loop-i-init : goal.loop-i-init
loop-i-init c = search (rules, filled_start)

pub loop-i-preserved : goal.loop-i-preserved
loop-i-preserved c = search (rules, filled_again)

pub link-requires-in-loop-i : goal.link-requires-in-loop-i
link-requires-in-loop-i c = search (rules, fill_place, hash_below)
