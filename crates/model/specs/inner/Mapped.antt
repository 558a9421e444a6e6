-- A sheet with every instant mapped, and nothing else changed. Assumes nothing.
use Rattle.model.specs.Sheet.{Cell, number, instant, nothing, Sheet}

module _ {A B : Type 0} (f : A → B) where
  abbrev pub map_cell : Cell A → Cell B
  map_cell (number x) = number x
  map_cell (instant x) = instant (f x)
  map_cell nothing = nothing

  abbrev pub map_sheet : Sheet A → Sheet B
  map_sheet s = record { count = s.count; cell = λ k c. map_cell (s.cell k c) }
