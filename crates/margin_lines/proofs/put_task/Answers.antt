use Rattle.margin_lines.proofs.Bounds.{deadline_fits, deadline_within, completion_most}
use Rattle.margin_lines.proofs.Told.{no_deadline, unplanned, task_line}
use Rattle.model.proofs.Accepting.{accepted}
use borrow.Author.Rules.{rules, sfits_of}
use Rattle.margin_lines.proofs.put_task.Goals as goal

pub returns-in_default : goal.returns-in_default
returns-in_default c = let m = rw c.as_slice.ensures.rows at c.instant_at.ensures in search (rules, m, no_deadline)

pub returns-in_default-task_completion_time : goal.returns-in_default-task_completion_time
returns-in_default-task_completion_time c =
    let m = rw c.as_slice.ensures.rows at c.instant_at.ensures in
    let n = rw c.by_kind.ensures.rows at c.task_completion_time.ensures in
    search (rules, m, n, unplanned)

pub overflow_cast-d : goal.overflow_cast-d
overflow_cast-d c = let m = rw c.as_slice.ensures.rows at c.instant_at.ensures in search (rules, m, deadline_fits, accepted)

pub left_of-requires : goal.left_of-requires
left_of-requires c =
    let m = rw c.as_slice.ensures.rows at c.instant_at.ensures in
    let n = rw c.by_kind.ensures.rows at c.task_completion_time.ensures in
    (search (rules, m, deadline_within, accepted), search (rules, n, completion_most, accepted))

pub returns : goal.returns
returns c =
    let m = rw c.as_slice.ensures.rows at c.instant_at.ensures in
    let n = rw c.by_kind.ensures.rows at c.task_completion_time.ensures in
    task_line _ c.args.k c.requires _ m c.in-Some.is c.num-id.ensures.value n c.put.ensures c.of.ensures c.left_of.ensures c.in-Some-task_completion_time.is c.as_slice.ensures.known.0
    (sfits_of c.left_of.type_inv)
