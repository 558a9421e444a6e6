-- `activity_span` of scheduler/feasibility.rs.
use Rattle.std.specs.Prelude.{ℕ, map}
use Rattle.std.specs.Prelude.{Option, None, Some}
use Rattle.loops.specs.Lists.{option}
use Rattle.calendar.specs.Clock.{Clock}
use Rattle.model.specs.Sheet.{Sheet}
use Rattle.model.specs.Schedule.{assignments_for_activity_all, time_only_for_activity, latest, earliest}

pub record Span (T : Type 0) : Type 0 where
  pub start : T
  pub end : T

abbrev pub span_from : {T : Type 0} → Option T → Option T → Option (Span T)
span_from None e = None
span_from (Some a) None = None
span_from (Some a) (Some e) = Some (record { start = a; end = e })

module _ {T : Type 0} (K : Clock T) (s : Sheet T) where
  -- its time-only span, or else from the earliest start to the latest end of its bookings
  unfoldable pub activity_span : ℕ → Option (Span T)
  activity_span x =
      option (time_only_for_activity s x)
      (span_from
      (earliest K (map (λ a. a.start) (assignments_for_activity_all s x)))
      (latest K (map (λ a. a.end) (assignments_for_activity_all s x))))
      (λ span. Some (record { start = span.start; end = span.end }))
