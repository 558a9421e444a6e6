-- What a row of a kind is, read by its columns; and that a row of any other kind is none. Assumes nothing.
use Prim.Native.Nat.{ℕ}
use mathlib.Core.Path.{◌≡◌}
use mathlib.Core.Bool.{true, false}
use mathlib.Core.List.{List, [], ◌∷◌}
use lib.Dec.{eqb}
use lib.IntN.{ℤ, pos}
use Rattle.rows.specs.Cells.{cell, num, is}
use Rattle.sheet.proofs.Lookups.{is_num}
use Rattle.model.specs.Sheet.{sheet, row_at}
use Rattle.model.specs.inner.Records.{maybe_at}
use Rattle.model.specs.Task.{task_at}
use Rattle.model.specs.Activity.{activity_at}
use Rattle.model.specs.Resource.{resource_at}
use Rattle.model.specs.Schedule.{assignment_at, span_at, as_part}

module _ (rows : List ℤ) (k : ℕ) where
  -- a row of another kind
  pub row_none : {A : Type 0} (x : ℕ) (f : ℕ → List A) → is rows k 0 x ≡ false → row_at (sheet rows) x f k ≡ []
  unfolding is
  row_none x f h = rw h

  pub row_here : {A : Type 0} (x : ℕ) (f : ℕ → List A) → is rows k 0 x ≡ true → row_at (sheet rows) x f k ≡ f k
  unfolding is
  row_here x f h = rw h

  pub task_row : is rows k 0 1 ≡ true
      → task_at (sheet rows) k ≡ record { id = num rows k 1; deadline = maybe_at rows k 2; release = maybe_at rows k 3 } ∷ []
  unfolding task_at
  task_row h = rw (is_num rows k 0 1 h)

  pub task_none : is rows k 0 1 ≡ false → task_at (sheet rows) k ≡ []
  unfolding task_at is
  task_none h = rw h

  pub activity_row : is rows k 0 2 ≡ true
      → activity_at (sheet rows) k
      ≡ record {
        id = num rows k 1;
        task = num rows k 2;
        sequence = cell rows k 3;
        duration = record { setup_ms = num rows k 4; process_ms = num rows k 5; teardown_ms = num rows k 6 };
        resumable = eqb (num rows k 7) 1;
        release = maybe_at rows k 8;
      } ∷ []
  unfolding activity_at
  activity_row h = rw (is_num rows k 0 2 h)

  pub activity_none : is rows k 0 2 ≡ false → activity_at (sheet rows) k ≡ []
  unfolding activity_at is
  activity_none h = rw h

  pub resource_row : is rows k 0 11 ≡ true
      → resource_at (sheet rows) k ≡ record { id = num rows k 1; type = num rows k 2; capacity = cell rows k 3 } ∷ []
  unfolding resource_at
  resource_row h = rw (is_num rows k 0 11 h)

  pub resource_none : is rows k 0 11 ≡ false → resource_at (sheet rows) k ≡ []
  unfolding resource_at is
  resource_none h = rw h

  pub assignment_row : is rows k 0 23 ≡ true
      → assignment_at (sheet rows) k
      ≡ record {
        activity = num rows k 1;
        task = num rows k 2;
        resource = num rows k 3;
        start = pos (num rows k 4);
        end = pos (num rows k 5);
        setup = num rows k 6;
        part = as_part ((sheet rows).cell k 7) ((sheet rows).cell k 8);
      } ∷ []
  unfolding assignment_at
  assignment_row h = rw (is_num rows k 0 23 h)

  pub assignment_none : is rows k 0 23 ≡ false → assignment_at (sheet rows) k ≡ []
  unfolding assignment_at is
  assignment_none h = rw h

  pub span_row : is rows k 0 24 ≡ true
      → span_at (sheet rows) k ≡ record { activity = num rows k 1; task = num rows k 2; start = pos (num rows k 3); end = pos (num rows k 4) } ∷ []
  unfolding span_at
  span_row h = rw (is_num rows k 0 24 h)

  pub span_none : is rows k 0 24 ≡ false → span_at (sheet rows) k ≡ []
  unfolding span_at is
  span_none h = rw h
