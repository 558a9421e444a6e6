-- When the work of a step reaches the next one, booking by booking. Assumes nothing.
use Rattle.std.specs.Prelude.{ℕ, ◌+◌, Bool, ◌&&◌, List, [], ◌∷◌, ltb, ℤ}
use Rattle.loops.specs.Search.{any_below}
use Rattle.calendar.specs.Clock.{clock}
use Rattle.rows.specs.Cells.{row_count, num}
use Rattle.model.specs.Sheet.{sheet}
use Rattle.model.specs.Resource.{transport_between}
use Rattle.definition.specs.CheckPrecedence.{runs_on_all}
use Rattle.pieces.specs.inner.Bookings.{in_piece}

-- row j is a booking of booking k's piece that starts before an instant
unfoldable pub starts_at : List ℤ → ℕ → ℕ → ℕ → Bool
starts_at rows k bound j = in_piece rows k j && ltb (num rows j 4) bound

-- booking k's piece starts before the work of activity a, done at `from`, is moved to booking k's resource
unfoldable pub unreached_at : List ℤ → ℕ → ℕ → ℕ → Bool
unreached_at rows a from k =
    any_below (starts_at rows k (from + transport_between (sheet rows) (runs_on_all clock (sheet rows) a) (num rows k 3 ∷ []))) (row_count rows)
