use Rattle.outcomes.specs.Outcome.{of_answer}
use Rattle.outcomes.proofs.Known.{known}
use borrow.Author.Rules.{rules}
use Rattle.hutchdecade.proofs.sheet_margins.Goals as goal

pub returns : goal.returns
returns c =
    record {
      value = search (rules, known of_answer);
      lines_after = search rules;
    }
