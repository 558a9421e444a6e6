-- Whose windows are laid out. Assumes nothing.
use Rattle.std.specs.Prelude.{ℕ, ◌≡◌, List, ◌⊎◌, ℤ, Some}
use Rattle.calendar.specs.declared.TimeWindow.{TimeWindow}
use Rattle.calendar.specs.Calendar.{kind_of}
use Rattle.rows.specs.Cells.{num}
use Rattle.sheet.specs.Places.{place_of}

-- row o is an activity and x the kind of its windows, or it is a resource and x the kind of its windows
abbrev pub Holder : List ℤ → ℕ → ℕ → Type 0
Holder rows o x = ((x ≡ 16) × (place_of rows 2 (num rows o 1) ≡ Some o)) ⊎ ((x ≡ 15) × (place_of rows 11 (num rows o 1) ≡ Some o))

-- the window of row k
abbrev pub window_here : List ℤ → ℕ → TimeWindow
window_here rows k = record { kind = kind_of (num rows k 2); start = num rows k 3; end = num rows k 4 }
