use Rattle.freebusy.proofs.StepLaws.{put_free, put_wrong, put_span}
use borrow.Author.Rules.{rules}
use Rattle.freebusy.proofs.Lent.put_window.Goals as goal

pub returns-in-Ok : goal.returns-in-Ok
returns-in-Ok c = search (rules, put_span)

pub returns-in_default : goal.returns-in_default
returns-in_default c = search put_free

pub returns-in_default-2 : goal.returns-in_default-2
returns-in_default-2 c = search put_wrong
