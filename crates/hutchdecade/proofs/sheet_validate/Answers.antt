use Rattle.outcomes.specs.Outcome.{of_refusal}
use Rattle.outcomes.proofs.Known.{known}
use borrow.Author.Rules.{rules}
use Rattle.hutchdecade.proofs.sheet_validate.Goals as goal

pub returns : goal.returns
returns c = search (rules, known of_refusal)
