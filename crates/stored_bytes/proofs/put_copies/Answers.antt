use borrow.Author.Rules.{rules}
use Rattle.stored_numbers.proofs.PutLaws.{yet_less, yet_none, yet_as, times_next, times_done}
use Rattle.stored_bytes.proofs.put_copies.Goals as goal

pub loop-i-preserved : goal.loop-i-preserved
loop-i-preserved c = search (rules, yet_less, yet_as, times_next)

pub returns : goal.returns
returns c = search (rules, yet_none, yet_as, times_done)
