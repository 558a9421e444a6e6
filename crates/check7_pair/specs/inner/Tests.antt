-- The two tests of a step of a task against the one before it. Assumes nothing.
use Rattle.std.specs.Prelude.{ℕ, Bool, false, List, ℤ, pos, ◌+ℤ◌}
use Rattle.loops.specs.Lists.{any_of, option}
use Rattle.calendar.specs.Clock.{clock}
use Rattle.model.specs.Sheet.{sheet}
use Rattle.model.specs.Resource.{transport_between}
use Rattle.definition.specs.ActivitySpan.{activity_span}
use Rattle.definition.specs.CheckPrecedence.{runs_on_all, pieces_of}

module _ (rows : List ℤ) (before after : ℕ) where
  -- a piece of activity `after` starts before the work, done at `from` by activity `before`, reaches it
  unfoldable pub starts_early : ℤ → Bool
  starts_early from =
      any_of
      (λ p. clock.before p.start (clock.plus from (pos (transport_between (sheet rows) (runs_on_all clock (sheet rows) before) p.to))))
      (pieces_of clock (sheet rows) after)

  -- activity `after` ends before `earliest` and the longest move to where it runs
  unfoldable pub ends_early : ℤ → Bool
  ends_early earliest =
      option (activity_span clock (sheet rows) after) false λ y.
      clock.before y.end
      (pos (transport_between (sheet rows) (runs_on_all clock (sheet rows) before) (runs_on_all clock (sheet rows) after)) +ℤ earliest)
