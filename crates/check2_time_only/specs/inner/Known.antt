-- The activity that a span names, by its row. Assumes nothing.
use Rattle.std.specs.Prelude.{ℕ, ◌&&◌, cond, List, ℤ, Option, None, Some}
use Rattle.loops.specs.Lists.{option, is_empty}
use Rattle.rows.specs.Cells.{num, is}
use Rattle.sheet.specs.Places.{place_of}
use Rattle.model.specs.Sheet.{sheet}
use Rattle.model.specs.Activity.{requirements}

-- the row of the activity that the span of row k names, if it is one of the span's task and holds no resource
unfoldable pub known_row : List ℤ → ℕ → Option ℕ
known_row rows k =
    option (place_of rows 2 (num rows k 1)) None
    λ a. cond (is_empty (requirements (sheet rows) (num rows a 1)) && is rows a 2 (num rows k 2)) (Some a) None
