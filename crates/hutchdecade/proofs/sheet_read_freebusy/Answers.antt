use Rattle.outcomes.specs.Outcome.{of_answer}
use Rattle.outcomes.proofs.Known.{known}
use Rattle.freebusy.proofs.CallLaws.{answer_asked, after_asked}
use borrow.Author.Rules.{rules}
use Rattle.hutchdecade.proofs.sheet_read_freebusy.Goals as goal

pub returns : goal.returns
returns c =
    record {
      value = search (rules, known of_answer, answer_asked);
      rows_after = search (rules, after_asked);
    }
