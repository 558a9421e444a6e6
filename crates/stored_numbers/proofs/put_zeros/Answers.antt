use borrow.Author.Rules.{rules}
use Rattle.stored_numbers.proofs.PutLaws.{yet_less, yet_as, replicate_next}
use Rattle.stored_numbers.proofs.put_zeros.Goals as goal

pub loop-i-preserved : goal.loop-i-preserved
loop-i-preserved c = search (rules, yet_less, yet_as, replicate_next)
