-- What a lookup answers, what a span stands for, and a step of the loop over an activity's bookings. Assumes nothing.
use Rattle.std.specs.Prelude.{ℕ, cond, List, ℤ, pos, Option, None, Some}
use Rattle.calendar.specs.Clock.{clock}
use Rattle.rows.specs.Cells.{num}
use Rattle.definition.specs.ActivitySpan as page
use Rattle.spans.specs.declared.Span.{Span}
use Rattle.spans.specs.declared.ActivitySpan.{ActivitySpan}
use Rattle.spans.specs.declared.ActivitySpan.TheVariants.{Between, Nowhere}

-- the span that was found
abbrev pub span_found : ActivitySpan → Option Span
span_found (Between x) = Some x
span_found Nowhere = None

abbrev pub span_meant : Option Span → Option (page.Span ℤ)
span_meant (Some x) = Some (record { start = pos x.start; end = pos x.end })
span_meant None = None

-- a span widened to hold the time from a to e
abbrev pub widened : Option (page.Span ℤ) → ℤ → ℤ → Option (page.Span ℤ)
widened None a e = Some (record { start = a; end = e })
widened (Some x) a e =
    Some
    (record {
      start = cond (clock.before a x.start) a x.start;
      end = cond (clock.before x.end e) e x.end;
    })

-- the span widened by the booking of row k
abbrev pub widen_by : List ℤ → Option (page.Span ℤ) → ℕ → Option (page.Span ℤ)
widen_by rows x k = widened x (pos (num rows k 4)) (pos (num rows k 5))
