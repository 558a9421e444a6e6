-- What is printed of lines of three numbers, as they stand in a lent buffer. Assumes nothing.
use Rattle.std.specs.Prelude.{ℕ, List, ◌++◌, ℤ, pos, get_or, drop}
use Rattle.loops.specs.Numbers.{to_nat}
use Rattle.loops.specs.Range.{collect}
use Rattle.printing.specs.NumberLines.{number_line, line_at}
use Rattle.margins.specs.Program.{word_of}

-- the word by the first number, then the others
unfoldable pub line_bytes : List ℤ → List ℕ
line_bytes line = word_of (to_nat (get_or line 0 (pos 0))) ++ number_line (drop 1 line)

-- the first n lines
unfoldable pub lines_bytes : List ℤ → ℕ → List ℕ
lines_bytes numbers n = collect (λ k. line_bytes (line_at 3 numbers k)) n
