-- Refusal 5 as the code looks for it: by the kind of a row. That it comes to the same is a law: proofs/Groups.antt. Assumes nothing.
use Rattle.std.specs.Prelude.{ℕ, Bool, false, cond, ◌&&◌, ◌||◌, List, [], ◌∷◌, ℤ, get_or, eqb}
use Rattle.loops.specs.Search.{any_below}
use Rattle.rows.specs.Cells.{num, is}
use Rattle.sheet.specs.Places.{named}

-- The rows of the kinds 0, 1, 2 .. that repeat one another have one number here: tasks, activities, overlaps, splits, timings (9 and 10), resources,
-- transports. 0: the rows of the kind may repeat.
abbrev pub groups : List ℕ
groups = 0 ∷ 1 ∷ 2 ∷ 3 ∷ 4 ∷ 0 ∷ 0 ∷ 0 ∷ 0 ∷ 9 ∷ 9 ∷ 11 ∷ 0 ∷ 0 ∷ 14 ∷ []

unfoldable pub group : ℕ → ℕ
group kind = get_or groups kind 0

-- row j is of that kind, with that id in column 1 and that number in column 2
unfoldable pub named_pair : List ℤ → ℕ → ℕ → ℕ → ℕ → Bool
named_pair rows kind id other j = named rows kind id j && is rows j 2 other

-- an earlier row than k has that id, and in the groups 9 and 14 that other number, and is of a kind of group g
unfoldable pub repeated_in : List ℤ → ℕ → ℕ → ℕ → ℕ → Bool
repeated_in rows k g id other =
    cond (eqb g 0) false
    (cond (eqb g 14) (any_below (named_pair rows 14 id other) k)
    (cond (eqb g 9) (any_below (named_pair rows 9 id other) k || any_below (named_pair rows 10 id other) k) (any_below (named rows g id) k)))

abbrev pub repeated_by : List ℤ → ℕ → Bool
repeated_by rows k = repeated_in rows k (group (num rows k 0)) (num rows k 1) (num rows k 2)

-- the kinds of which no two rows have the same number in column 1
abbrev pub once : ℕ → Bool
once kind = eqb kind 1 || eqb kind 2 || eqb kind 3 || eqb kind 4 || eqb kind 11
