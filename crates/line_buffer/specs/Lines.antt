-- Lines of numbers in a row, as a lent buffer holds them. Assumes nothing.
use Rattle.std.specs.Prelude.{List, [], ◌∷◌, ◌++◌, ℤ}

-- what is found, x, is told by a line, its numbers
module _ {X : Type 0} (numbers : X → List ℤ) where
  unfoldable pub flat_lines : List X → List ℤ
  flat_lines [] = []
  flat_lines (x ∷ xs) = numbers x ++ flat_lines xs
