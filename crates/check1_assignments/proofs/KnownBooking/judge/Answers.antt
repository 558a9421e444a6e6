use Rattle.check1_assignments.proofs.Judging.{judged_told}
use Rattle.check1_assignments.proofs.KnownBooking.judge.Goals as goal

pub returns : goal.returns
returns c =
    judged_told _ _ _ c.requires.0 c.requires.1 _ (rw c.deref.ensures at c.num-id.ensures.value) c.of.ensures c.of-2.ensures c.of-early.ensures
    c.uses_before-used.ensures.count c.is_over-over.ensures c.report.ensures c.is_short-short.ensures c.report-2.ensures
    c.is_early.ensures c.report-3.ensures c.is_early_in_task.ensures c.report-4.ensures
