-- Margins at their ends, as the call leaves them: zero of a task and of a resource, and 4,000,000,000,000 either way of a task. Assumes nothing.
use Rattle.std.specs.Prelude.{◌≡◌, List, [], ◌∷◌, ◌++◌, ℤ, pos}
use Rattle.loops.specs.Numbers.{minus}
use Rattle.rows.specs.Ranges.{held_none}
use Rattle.margin_lines.specs.Call.{margins_after}

-- task 1 with this deadline, and a booking of it on resource 5, which has a capacity of 1, from `start` to `end`
abbrev pub week : ℤ → ℤ → ℤ → List ℤ
week deadline start end =
    (pos 1 ∷ pos 1 ∷ deadline ∷ held_none ∷ pos 0 ∷ pos 0 ∷ pos 0 ∷ pos 0 ∷ pos 0 ∷ pos 0 ∷ [])
    ++ (pos 11 ∷ pos 5 ∷ pos 7 ∷ pos 1 ∷ pos 0 ∷ pos 0 ∷ pos 0 ∷ pos 0 ∷ pos 0 ∷ pos 0 ∷ [])
    ++ (pos 23 ∷ pos 10 ∷ pos 1 ∷ pos 5 ∷ start ∷ end ∷ pos 0 ∷ held_none ∷ held_none ∷ pos 0 ∷ [])

-- seven numbers, lent: room for two lines, and one number more
abbrev pub lent : List ℤ
lent = pos 8 ∷ pos 8 ∷ pos 8 ∷ pos 8 ∷ pos 8 ∷ pos 8 ∷ pos 8 ∷ []

pub record AtTheEnds : Type 0 where
  -- it completes at its deadline, and the resource is full and not overloaded
  pub zero : margins_after (week (pos 100) (pos 50) (pos 100)) lent ≡ pos 1 ∷ pos 1 ∷ pos 0 ∷ pos 2 ∷ pos 5 ∷ pos 0 ∷ pos 8 ∷ []
  -- the latest deadline, the earliest completion; a booking of no length loads nothing
  pub earliest : margins_after (week (pos 4_000_000_000_000) (pos 0) (pos 0)) lent ≡ pos 1 ∷ pos 1 ∷ pos 4_000_000_000_000 ∷ pos 2 ∷ pos 5 ∷ pos 1 ∷ pos 8 ∷ []
  -- the earliest deadline, the latest completion
  pub latest : margins_after (week (pos 0) (pos 0) (pos 4_000_000_000_000)) lent ≡ pos 1 ∷ pos 1 ∷ minus 4_000_000_000_000 ∷ pos 2 ∷ pos 5 ∷ pos 0 ∷ pos 8 ∷ []
