-- Where a row stands that is looked for: by kind and id, by its number among the requirements of an activity, or among the constraints.
-- Assumes nothing.
use Rattle.std.specs.Prelude.{ℕ, Bool, ◌&&◌, List, ℤ, eqb, leb}
use Rattle.std.specs.Prelude.{Option}
use Rattle.loops.specs.Search.{first_place, count_below}
use Rattle.rows.specs.Cells.{row_count, num, is}

-- row k is of that kind
unfoldable pub of_kind : List ℤ → ℕ → ℕ → Bool
of_kind rows kind k = is rows k 0 kind

-- row k is of that kind and has the id in column 1
unfoldable pub named : List ℤ → ℕ → ℕ → ℕ → Bool
named rows kind id k = is rows k 0 kind && is rows k 1 id

-- the first row of that kind and id
unfoldable pub place_of : List ℤ → ℕ → ℕ → Option ℕ
place_of rows kind id = first_place (named rows kind id) (row_count rows)

abbrev pub task_place : List ℤ → ℕ → Option ℕ
task_place rows id = place_of rows 1 id

abbrev pub activity_place : List ℤ → ℕ → Option ℕ
activity_place rows id = place_of rows 2 id

abbrev pub resource_place : List ℤ → ℕ → Option ℕ
resource_place rows id = place_of rows 11 id

-- place k is number m, from 0, of the places that pass the test
unfoldable pub is_nth : (ℕ → Bool) → ℕ → ℕ → Bool
is_nth p m k = p k && eqb (count_below p k) m

unfoldable pub nth_place : (ℕ → Bool) → ℕ → ℕ → Option ℕ
nth_place p m n = first_place (is_nth p m) n

-- requirement places count within the activity
abbrev pub requirement_place : List ℤ → ℕ → ℕ → Option ℕ
requirement_place rows activity m = nth_place (named rows 5 activity) m (row_count rows)

-- row k is a constraint
unfoldable pub is_constraint : List ℤ → ℕ → Bool
is_constraint rows k = leb 17 (num rows k 0) && leb (num rows k 0) 21

-- constraint places count over kinds 17 to 21
abbrev pub constraint_place : List ℤ → ℕ → Option ℕ
constraint_place rows m = nth_place (is_constraint rows) m (row_count rows)
