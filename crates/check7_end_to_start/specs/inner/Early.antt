-- The test of `end_to_start`. Assumes nothing.
use Rattle.std.specs.Prelude.{ℕ, Bool, false, List, ℤ}
use Rattle.loops.specs.Lists.{option}
use Rattle.calendar.specs.Clock.{clock}
use Rattle.model.specs.Sheet.{sheet}
use Rattle.definition.specs.ActivitySpan.{activity_span}

-- `after` starts before `delay` after `before` ends; both have a span
unfoldable pub starts_early : List ℤ → ℕ → ℕ → ℤ → Bool
starts_early rows before after delay =
    option (activity_span clock (sheet rows) before) false λ x.
    option (activity_span clock (sheet rows) after) false λ y.
    clock.before y.start (clock.plus x.end delay)
