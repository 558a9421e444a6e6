use Rattle.loops.proofs.StoreLaws.{wrote_there}
use Rattle.stored_numbers.proofs.GivesLaws.{all_numbers}
use Rattle.stored_numbers.proofs.PutLaws.{told_all}
use borrow.Author.Rules.{rules}
use Rattle.stored_numbers.proofs.gather_numbers.Goals as goal

pub returns : goal.returns
returns c =
    record {
      value = search (rules, told_all, all_numbers);
      out_after = search (rules, wrote_there, all_numbers);
    }
