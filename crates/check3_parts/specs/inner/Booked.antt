-- The parts of an activity's bookings, by row: o is the row of the activity, x that of its split. Assumes nothing.
use Rattle.std.specs.Prelude.{ℕ, Bool, cond, not, ◌&&◌, ◌||◌, List, [], ◌∷◌, ◌++◌, length, eqb, ltb, ℤ, pos, Option, Some}
use Rattle.std.specs.Int.Signed.{lt_z}
use Rattle.loops.specs.Lists.{given, any_of, each, option}
use Rattle.loops.specs.Ordered.{Entry, values}
use Rattle.loops.specs.Range.{collect}
use Rattle.loops.specs.Search.{any_below, first_place}
use Rattle.loops.specs.Sums.{total}
use Rattle.loops.specs.inner.Chain.{only}
use Rattle.rows.specs.Cells.{row_count, cell, num}
use Rattle.rows.specs.Ranges.{is_none}
use Rattle.owners.specs.inner.Owners.{owned_by}
use Rattle.findings.specs.declared.Violation.{Violation}
use Rattle.model.specs.Schedule.{Part, unknown_activity, duration_too_short}
use Rattle.model.specs.Activity.{Split}
use Rattle.pieces.specs.inner.Bookings.{key_at}
use Rattle.definition.specs.CheckParts.{parts_of, two_works, check_parts_of}

-- booking k is of a part
unfoldable pub has_part : List ℤ → ℕ → Bool
has_part rows k = not (is_none (cell rows k 7))

-- booking k is of the whole activity
unfoldable pub without_part : List ℤ → ℕ → Bool
without_part rows k = not (has_part rows k)

abbrev pub part_of : List ℤ → ℕ → Part
part_of rows k = record { index = cell rows k 7; work = num rows k 8 }

-- the part of row k, where it is a booking of the activity
unfoldable pub part_at : List ℤ → ℕ → ℕ → List Part
part_at rows o = only (owned_by rows o 23) λ k. given (has_part rows k) (part_of rows k)

-- the parts of the bookings above row k
unfoldable pub parts_below : List ℤ → ℕ → ℕ → List Part
parts_below rows o k = collect (part_at rows o) k

-- the map of all
abbrev pub parts_in : List ℤ → ℕ → List (Entry ℤ ℕ)
parts_in rows o = parts_of (parts_below rows o (row_count rows))

-- the work that booking i gives booking k's part, where it is of that part; else what it was given before
unfoldable pub given_by : List ℤ → ℕ → Option ℕ → ℕ → Option ℕ
given_by rows k w i = cond (has_part rows i && eqb (key_at rows i) (key_at rows k)) (Some (num rows i 8)) w

-- row k is a booking of the whole activity
unfoldable pub whole_at : List ℤ → ℕ → ℕ → Bool
whole_at rows o k = owned_by rows o 23 k && not (has_part rows k)

unfoldable pub whole_in : List ℤ → ℕ → Bool
whole_in rows o = any_below (whole_at rows o) (row_count rows)

abbrev pub split_of : List ℤ → ℕ → Split
split_of rows x = record { max_parts = cell rows x 2; min_part = num rows x 3; overhead = num rows x 4 }

-- an index that the split does not have
abbrev pub outside : ℤ → ℤ → Bool
outside most i = lt_z i (pos 0) || not (lt_z i most)

-- booking k is of a part with such an index
unfoldable pub outside_at : List ℤ → ℕ → ℕ → Bool
outside_at rows x k = has_part rows k && outside (cell rows x 2) (cell rows k 7)

abbrev pub some_outside : List ℤ → ℕ → List (Entry ℤ ℕ) → Bool
some_outside rows x m = any_of (λ e. outside (cell rows x 2) e.key) m

-- what is wrong with the parts together: a booking of the whole activity, too many parts or one that the split does not have, too little work, too much
unfoldable pub total_findings : List ℤ → ℕ → ℕ → List Violation
total_findings rows x o =
    given (whole_in rows o) (unknown_activity 3 (num rows o 1))
    ++ given (lt_z (cell rows x 2) (pos (total (λ _. 1) (parts_in rows o))) || some_outside rows x (parts_in rows o)) (unknown_activity 3 (num rows o 1))
    ++ given (ltb (total (λ e. e.value) (parts_in rows o)) (num rows o 5)) (duration_too_short 3 (num rows o 1))
    ++ given (ltb (num rows o 5) (total (λ e. e.value) (parts_in rows o))) (unknown_activity 3 (num rows o 1))

-- one finding, at each turn
unfoldable pub repeated : Violation → ℕ → List Violation
repeated f _ = f ∷ []

-- each part below the minimum
abbrev pub short_parts : List ℤ → ℕ → ℕ → List Violation
short_parts rows x o = each (λ w. given (ltb w (num rows x 3)) (duration_too_short 3 (num rows o 1))) (values (parts_in rows o))

-- the findings of the activity at row o by the split at row x
unfoldable pub split_findings : List ℤ → ℕ → ℕ → List Violation
split_findings rows x o =
    cond (eqb (length (parts_in rows o)) 0) []
    (check_parts_of (num rows o 1) (num rows o 5) (split_of rows x) (whole_in rows o) (parts_in rows o))

-- the same, with those of two works for one part
unfoldable pub activity_findings : List ℤ → ℕ → List Violation
activity_findings rows o =
    option (first_place (owned_by rows o 4) (row_count rows)) []
    (λ x. two_works (num rows o 1) [] (parts_below rows o (row_count rows)) ++ split_findings rows x o)

-- of the task at row t
unfoldable pub task_findings : List ℤ → ℕ → List Violation
task_findings rows t = collect (only (owned_by rows t 2) (activity_findings rows)) (row_count rows)
