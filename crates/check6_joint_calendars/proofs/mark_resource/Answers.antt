use borrow.Author.Rules.{rules}
use Rattle.check6_joint_calendars.proofs.Marking.{mark_none}
use Rattle.check6_joint_calendars.proofs.mark_resource.Goals as goal

pub returns-in_default : goal.returns-in_default
returns-in_default c = search (rules, mark_none)
