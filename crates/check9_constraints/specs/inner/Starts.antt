-- The starts of a synchronize constraint's members, seen one after the other. Assumes nothing.
use Rattle.std.specs.Prelude.{ℕ, Bool, false, not, ◌||◌, List, [], ◌∷◌, ℤ, Option, Some}
use Rattle.loops.specs.Lists.{option}
use Rattle.calendar.specs.Clock.{clock}
use Rattle.rows.specs.Cells.{num}
use Rattle.model.specs.Sheet.{sheet}
use Rattle.definition.specs.ActivitySpan.{activity_span}
use Rattle.definition.specs.CheckRequirements.{same_time}

-- a start is another than the last, if there was one
unfoldable pub apart : Option ℤ → ℤ → Bool
apart last start = option last false (λ x. not (same_time clock x start))

-- each member from here on has a span, and two neighbours differ, or did before
abbrev pub unsynchronized : List ℤ → Bool → Option ℤ → List ℕ → Bool
unsynchronized rows differing last [] = differing
unsynchronized rows differing last (k ∷ l) =
    option (activity_span clock (sheet rows) (num rows k 2)) false
    λ x. unsynchronized rows (differing || apart last x.start) (Some x.start) l
