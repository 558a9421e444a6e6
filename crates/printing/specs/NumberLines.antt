-- Lines of numbers, of any width: a line is its numbers, parted by commas (44), ended by a line feed (10). Assumes nothing.
use Rattle.std.specs.Prelude.{ℕ, ◌+◌, ◌*◌, cond, List, [], ◌∷◌, ◌++◌, ltb, length, get_or, take, drop, ℤ, pos}
use Rattle.loops.specs.Range.{collect}
use Rattle.printing.specs.Decimal.{spelling}

-- number c of a line, and the byte that ends it
unfoldable pub field : List ℤ → ℕ → List ℕ
field line c = spelling (get_or line c (pos 0)) ++ cond (ltb (c + 1) (length line)) 44 10 ∷ []

unfoldable pub number_line : List ℤ → List ℕ
number_line line = collect (field line) (length line)

-- line k of numbers that are lines of w each
unfoldable pub line_at : ℕ → List ℤ → ℕ → List ℤ
line_at w numbers k = take w (drop (k * w) numbers)

-- the first n of those lines
unfoldable pub number_lines : ℕ → List ℤ → ℕ → List ℕ
number_lines w numbers n = collect (λ k. number_line (line_at w numbers k)) n
