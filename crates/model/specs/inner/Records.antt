-- What a row of a kind stands for, read by its columns: functions over the rows are handed a row's place, and their contracts speak of these.
-- Assumes nothing.
use Rattle.std.specs.Prelude.{ℕ, List, ℤ, pos, eqb}
use Rattle.std.specs.Prelude.{Option}
use Rattle.loops.specs.Search.{count_below}
use Rattle.rows.specs.Cells.{cell, num}
use Rattle.sheet.specs.Places.{named}
use Rattle.rows.specs.declared.Class.TheVariants.{OptionalInstant}
use Rattle.model.specs.Sheet.{Sheet, sheet, read, as_int, as_num, as_instant}
use Rattle.model.specs.Task.{Task}
use Rattle.model.specs.Activity.{Activity, ResourceRequirement}
use Rattle.model.specs.Resource.{Resource}
use Rattle.model.specs.Schedule.{Assignment, TimeOnlySpan, as_part}

module _ {T : Type 0} (s : Sheet T) where
  -- a column by its number
  abbrev pub int_at : ℕ → ℕ → ℤ
  int_at k c = as_int (s.cell k c)

  abbrev pub num_at : ℕ → ℕ → ℕ
  num_at k c = as_num (s.cell k c)

  abbrev pub time_at : ℕ → ℕ → Option T
  time_at k c = as_instant (s.cell k c)

-- an instant that may be none: a column of class OptionalInstant
abbrev pub maybe_at : List ℤ → ℕ → ℕ → Option ℤ
maybe_at rows k c = as_instant (read OptionalInstant (cell rows k c))

module _ (rows : List ℤ) (k : ℕ) where
  abbrev pub task_of : Task ℤ
  task_of = record { id = num rows k 1; deadline = maybe_at rows k 2; release = maybe_at rows k 3 }

  abbrev pub activity_of : Activity ℤ
  activity_of =
      record {
        id = num rows k 1;
        task = num rows k 2;
        sequence = cell rows k 3;
        duration = record { setup_ms = num rows k 4; process_ms = num rows k 5; teardown_ms = num rows k 6 };
        resumable = eqb (num rows k 7) 1;
        release = maybe_at rows k 8;
      }

  -- its place is the number of those of its activity above it
  abbrev pub requirement_of : ResourceRequirement
  requirement_of =
      record {
        activity = num rows k 1;
        type = num rows k 2;
        quantity = cell rows k 3;
        usage = num rows k 4;
        place = count_below (named rows 5 (num rows k 1)) k;
      }

  abbrev pub resource_of : Resource
  resource_of = record { id = num rows k 1; type = num rows k 2; capacity = cell rows k 3 }

  abbrev pub assignment_of : Assignment ℤ
  assignment_of =
      record {
        activity = num rows k 1;
        task = num rows k 2;
        resource = num rows k 3;
        start = pos (num rows k 4);
        end = pos (num rows k 5);
        setup = num rows k 6;
        part = as_part ((sheet rows).cell k 7) ((sheet rows).cell k 8);
      }

  abbrev pub span_of : TimeOnlySpan ℤ
  span_of = record { activity = num rows k 1; task = num rows k 2; start = pos (num rows k 3); end = pos (num rows k 4) }
