-- Timings and the parts of bookings as rows, and one booking's step of a derived time. Assumes nothing.
use Rattle.std.specs.Prelude.{ℕ, ◌+◌, Bool, cond, not, ◌&&◌, ◌||◌, List, ltb, ℤ, Option, None, Some}
use Rattle.std.specs.Float.{binary64}
use Rattle.std.specs.Float.Ieee.{of_bits}
use Rattle.loops.specs.Lists.{option}
use Rattle.loops.specs.Search.{first_place}
use Rattle.rows.specs.Cells.{row_count, num, is}
use Rattle.sheet.specs.inner.Kept.{Kept}
use Rattle.resource_timing.specs.declared.ActivityDuration.{ActivityDuration}
use Rattle.resource_timing.specs.declared.ResourceTiming.{ResourceTiming}
use Rattle.resource_timing.specs.declared.ResourceTiming.TheVariants.{Speed, Duration}
use Rattle.resource_timing.specs.declared.Piece.{Piece}
use Rattle.resource_timing.specs.Durations.{TimedSoFar, timed_on, piece_timing}
use Rattle.model.specs.Sheet.{sheet}
use Rattle.model.specs.Activity.{timing}
use Rattle.model.specs.Schedule.{Part, as_part}
use Rattle.pieces.specs.inner.Bookings.{in_piece, names}
use Rattle.pieces.specs.inner.Held.{held_at}

-- the earlier of two places
abbrev pub earlier_of : Option ℕ → Option ℕ → Option ℕ
earlier_of None y = y
earlier_of (Some i) None = Some i
earlier_of (Some i) (Some j) = cond (ltb i j) (Some i) (Some j)

module _ (rows : List ℤ) where
  abbrev pub columns_of : ℕ → ℕ → ActivityDuration
  columns_of k c = record { setup_ms = num rows k c; process_ms = num rows k (c + 1); teardown_ms = num rows k (c + 2) }

  abbrev pub part_at : ℕ → Option Part
  part_at k = as_part ((sheet rows).cell k 7) ((sheet rows).cell k 8)

  -- row i is a timing of activity a on resource r
  unfoldable pub timed_by : ℕ → ℕ → ℕ → Bool
  timed_by a r i = names rows 9 a r i || names rows 10 a r i

  unfoldable pub timing_of : ℕ → ResourceTiming
  timing_of i = cond (is rows i 0 9) (Speed (of_bits binary64 (num rows i 3))) (Duration (columns_of i 3))

  -- the row of the timing on booking k's resource
  unfoldable pub timing_place : ℕ → Option ℕ
  timing_place k = cond (is rows k 0 23) (first_place (timed_by (num rows k 1) (num rows k 3)) (row_count rows)) None

  -- one booking j more, where booking k's piece runs on it
  unfoldable pub timed_at : ℕ → Piece → TimedSoFar → ℕ → TimedSoFar
  timed_at k piece f j =
      cond (in_piece rows k j && not (held_at rows j))
      (option (timing (sheet rows) (num rows k 1) (num rows j 3)) f (λ t. timed_on f (piece_timing piece t)))
      f

-- the table that keeps them
abbrev pub Timings : List ℤ → List ℕ → Type 0
Timings rows t = Kept rows (timing_place rows) t
