use Rattle.check6_calendars.proofs.Plain.{both_told}
use borrow.Author.Rules.{rules}
use Rattle.check6_calendars.proofs.check_plain.Goals as goal

pub returns : goal.returns
returns c = search (rules, both_told)
