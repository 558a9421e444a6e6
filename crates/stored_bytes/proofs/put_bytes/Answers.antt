use borrow.Author.Rules.{rules}
use Rattle.stored_bytes.proofs.ByteLaws.{bytes_less}
use Rattle.stored_bytes.proofs.put_bytes.Goals as goal

pub loop-x-preserved : goal.loop-x-preserved
loop-x-preserved c = search (rules, bytes_less)
