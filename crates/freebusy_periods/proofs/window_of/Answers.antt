use Rattle.std.proofs.Common.{◌≡◌, ◌∙◌, ap, rules, Err}
use Rattle.freebusy_periods.proofs.PeriodLaws.{had, lacked, window_early, window_alone, window_late, window_span, window_not, start_most}
use Rattle.freebusy_periods.proofs.window_of.Goals as goal

pub returns-in_err-start : goal.returns-in_err-start
returns-in_err-start c =
    let y : c.from_residual.result ≡ Err c.in_err-start.field-0.0 = search rules in
    let h = lacked _ c.ok_or.ensures.value c.in_err-start.was in
    y ∙ ap Err h.1 ∙ window_early _ c.split_at_first.ensures.first c.read_instant.ensures h.0

pub end_from-requires : goal.end_from-requires
end_from-requires c = start_most _ c.read_instant.ensures (had _ c.ok_or.ensures.value c.in_ok-start.was)

pub returns-in_err-ok_or : goal.returns-in_err-ok_or
returns-in_err-ok_or c =
    let y : c.from_residual-in_err-ok_or.result ≡ Err c.in_err-ok_or.field-0.0 = search rules in
    let h = lacked _ c.ok_or-2.ensures.value c.in_err-ok_or.was in
    y ∙ ap Err h.1
    ∙ window_alone _ c.split_at_first.ensures.first c.split_at_first.result.1 c.split_at_first.ensures.rest c.read_instant.ensures (had _ c.ok_or.ensures.value c.in_ok-start.was) h.0

pub returns-in_err-end : goal.returns-in_err-end
returns-in_err-end c =
    let y : c.from_residual-in_err-end.result ≡ Err c.in_err-end.field-0.0 = search rules in
    let h = lacked _ c.ok_or-3.ensures.value c.in_err-end.was in
    y ∙ ap Err h.1
    ∙ window_late _ c.split_at_first.ensures.first c.split_at_first.result.1 c.split_at_first.ensures.rest c.read_instant.ensures (had _ c.ok_or.ensures.value c.in_ok-start.was)
    (had _ c.ok_or-2.ensures.value c.in_ok-ok_or.was) c.end_from.ensures h.0

pub returns-then-start-end : goal.returns-then-start-end
returns-then-start-end c =
    window_span _ c.split_at_first.ensures.first c.split_at_first.result.1 c.split_at_first.ensures.rest c.read_instant.ensures (had _ c.ok_or.ensures.value c.in_ok-start.was)
    (had _ c.ok_or-2.ensures.value c.in_ok-ok_or.was) c.end_from.ensures (had _ c.ok_or-3.ensures.value c.in_ok-end.was) (search rules)

pub returns-else-start-end : goal.returns-else-start-end
returns-else-start-end c =
    window_not _ c.split_at_first.ensures.first c.split_at_first.result.1 c.split_at_first.ensures.rest c.read_instant.ensures (had _ c.ok_or.ensures.value c.in_ok-start.was)
    (had _ c.ok_or-2.ensures.value c.in_ok-ok_or.was) c.end_from.ensures (had _ c.ok_or-3.ensures.value c.in_ok-end.was) (search rules)
