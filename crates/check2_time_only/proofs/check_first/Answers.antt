use borrow.Author.Rules.{rules}
use Rattle.sheet.proofs.Lookups.{place_kind, place_low}
use Rattle.window_rows.proofs.WindowRows.{all_fit}
use Rattle.window_rows.proofs.Lists.{alone}
use Rattle.check2_time_only.proofs.Told.{first_told}
use Rattle.check2_time_only.proofs.Spans.{own_windows}
use Rattle.check2_time_only.proofs.check_first.Goals as goal

pub gather_windows-requires : goal.gather_windows-requires
gather_windows-requires c = rw c.by_owner.ensures.rows (search (rules, place_low, own_windows, all_fit))

pub is_short-short-requires : goal.is_short-short-requires
is_short-short-requires c =
    let e = rw c.by_owner.ensures.rows at (alone _ _ _ c.clear.ensures.list c.gather_windows.ensures.laid c.as_slice-windows.ensures.list) in
    search (rules, place_kind)

pub is_outside-outside-requires : goal.is_outside-outside-requires
is_outside-outside-requires c = rw c.by_owner.ensures.rows at (alone _ _ _ c.clear.ensures.list c.gather_windows.ensures.laid c.as_slice-windows.ensures.list)

pub returns : goal.returns
returns c =
    first_told _ _ _ _ c.report.ensures c.report-2.ensures c.report-3.ensures c.report-4.ensures c.of.ensures c.of-2.ensures c.of-early.ensures
    c.num-id.ensures.value c.is_short-short.ensures c.is_outside-outside.ensures c.is_early-own.ensures (rw c.as_slice.ensures.rows at c.instant_at.ensures)
    c.is_early-of_task.ensures c.task_release.ensures
