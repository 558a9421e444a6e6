use Rattle.std.proofs.Common.{rules}
use Rattle.freebusy_periods.proofs.PeriodLaws.{period_undated, period_rest}
use Rattle.freebusy_periods.proofs.is_period.Goals as goal

pub returns-then-is_date_time : goal.returns-then-is_date_time
returns-then-is_date_time c =
    period_rest _ c.split_at_first.ensures.first c.split_at_first.result.1 c.split_at_first.ensures.rest c.is_date_time.ensures c.if-is_date_time.true c.is_some_and.ensures (λ v p. search rules)

pub returns-else-is_date_time : goal.returns-else-is_date_time
returns-else-is_date_time c = period_undated _ c.split_at_first.ensures.first c.is_date_time.ensures c.if-is_date_time.false
