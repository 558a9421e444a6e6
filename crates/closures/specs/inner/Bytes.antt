-- What is printed of rows, as they stand in the lent numbers: the first five numbers of each. Assumes nothing.
use Rattle.std.specs.Prelude.{ℕ, List, ℤ, take}
use Rattle.loops.specs.Range.{collect}
use Rattle.printing.specs.NumberLines.{number_line, line_at}

-- the first n rows
unfoldable pub rows_bytes : List ℤ → ℕ → List ℕ
rows_bytes numbers n = collect (λ k. number_line (take 5 (line_at 10 numbers k))) n
