-- The derived times of the bookings, by row, as the code holds them. Assumes nothing.
use Rattle.std.specs.Prelude.{ℕ, ◌+◌, ◌^◌, ◌<◌, ◌≤◌, ◌≡◌, List, [], ◌∷◌, ℤ, get_or, Option, None, Some, Ok, Err}
use Rattle.loops.specs.Lists.{head, option}
use Rattle.rows.specs.Cells.{row_count}
use Rattle.resource_timing.specs.inner.Limits.{Derived, within}
use Rattle.model.specs.Sheet.{sheet}
use Rattle.model.specs.Activity.{Activity, find_activity, needed_ms}
use Rattle.model.specs.Schedule.{Assignment, assignment_at}
use Rattle.definition.specs.Pieces.{runs_on}
use Rattle.derived_times.specs.Times.{derived}

-- processing and teardown; 2^53 where the time is refused
abbrev pub rest_ms : Derived → ℕ
rest_ms (Ok d) = d.process_ms + d.teardown_ms
rest_ms (Err e) = 9007199254740992

-- the derived duration of row k, where it is a booking of a known activity
unfoldable pub derived_at : List ℤ → ℕ → Option Derived
derived_at rows k =
    option (head (assignment_at (sheet rows) k)) None λ b.
    option (find_activity (sheet rows) b.activity) None λ a. Some (within (derived (sheet rows) b a))

-- what such a booking needs besides its own setup
unfoldable pub rest_at : List ℤ → ℕ → ℕ
rest_at rows k = option (derived_at rows k) 0 rest_ms

-- the table that holds them; past the last row it is 0
pub record Times (rows : List ℤ) (need : List ℕ) : Type 0 where
  pub short : row_count rows ≤ 800
  pub at : (k : ℕ) → k < row_count rows → get_or need k 0 ≡ rest_at rows k
  pub past : (k : ℕ) → row_count rows ≤ k → get_or need k 0 ≡ 0

-- what each booking of a known activity needs besides its own setup, in a sheet that is not refused
pub record Needs (rows : List ℤ) (need : List ℕ) : Type 0 where
  pub short : row_count rows ≤ 800
  pub at : (k : ℕ) (b : Assignment ℤ) (a : Activity ℤ) → k < row_count rows → assignment_at (sheet rows) k ≡ b ∷ []
      → find_activity (sheet rows) b.activity ≡ Some a → needed_ms (sheet rows) a b (runs_on (sheet rows) b) ≡ b.setup + get_or need k 0
  pub small : (k : ℕ) → k < row_count rows → get_or need k 0 < 2 ^ 53
  pub past : (k : ℕ) → row_count rows ≤ k → get_or need k 0 ≡ 0
