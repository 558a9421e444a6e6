use Rattle.std.proofs.Common.{◌≡◌, Some}
use Rattle.freebusy_periods.proofs.PeriodLaws.{endings, end_moved}
use Rattle.freebusy_periods.proofs.end_from.Goals as goal

pub returns-then-is_date_time : goal.returns-then-is_date_time
returns-then-is_date_time c = search endings

pub returns-in_err-n : goal.returns-in_err-n
returns-in_err-n c = search endings

pub returns-then-has_minus : goal.returns-then-has_minus
returns-then-has_minus c =
    let w : c.dur_value.result ≡ Some c.in_ok-n.n = c.in_ok-n.was in
    end_moved _ c.is_date_time.ensures c.args.a c.requires c.if-is_date_time.false c.dur_value.ensures w c.if-has_minus.ensures c.earlier.ensures

pub returns-else-has_minus : goal.returns-else-has_minus
returns-else-has_minus c =
    let w : c.dur_value.result ≡ Some c.in_ok-n.n = c.in_ok-n.was in
    end_moved _ c.is_date_time.ensures c.args.a c.requires c.if-is_date_time.false c.dur_value.ensures w c.if-has_minus.ensures c.later.ensures
