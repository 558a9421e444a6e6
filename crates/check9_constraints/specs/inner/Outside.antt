-- The test of a time window, by its row. Assumes nothing.
use Rattle.std.specs.Prelude.{ℕ, Bool, false, ◌||◌, List, ℤ, pos}
use Rattle.loops.specs.Lists.{option}
use Rattle.calendar.specs.Clock.{clock}
use Rattle.rows.specs.Cells.{num}
use Rattle.model.specs.Sheet.{sheet}
use Rattle.definition.specs.ActivitySpan.{activity_span}

-- the activity of the window in row k runs outside it
unfoldable pub outside_at : List ℤ → ℕ → Bool
outside_at rows k =
    option (activity_span clock (sheet rows) (num rows k 1)) false
    λ x. clock.before x.start (pos (num rows k 2)) || clock.before (pos (num rows k 3)) x.end
