use borrow.Author.Rules.{rules}
use Rattle.calendar.proofs.Answers.{sum_next, sum_fits, sum_end}
use Rattle.calendar.proofs.Calendars.joint_available_ms.Goals as goal

pub overflow_add-sum : goal.overflow_add-sum
overflow_add-sum c = search (rules, sum_fits)

pub loop-t-preserved : goal.loop-t-preserved
loop-t-preserved c = search (rules, sum_next)

pub returns : goal.returns
returns c = search (rules, sum_end)
