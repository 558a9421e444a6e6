-- What an answer stands for, and a step of the loop over ends. Assumes nothing.
use Rattle.std.specs.Prelude.{ℕ, cond, List, ℤ, pos, Option, None, Some}
use Rattle.calendar.specs.Clock.{clock}
use Rattle.rows.specs.Cells.{num, is}
use Rattle.model.specs.Schedule.{later_of}

abbrev pub meant : Option ℕ → Option ℤ
meant (Some x) = Some (pos x)
meant None = None

-- the end in column c of row k, where the row is of the task, if it is later than e
unfoldable pub end_if : List ℤ → ℕ → ℕ → Option ℤ → ℕ → Option ℤ
end_if rows c task e k = cond (is rows k 2 task) (later_of clock e (pos (num rows k c))) e
