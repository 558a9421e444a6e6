-- A sheet is lent as a list of numbers, ten to a row. Its cells are read by row and column; past the last row or column a cell is 0.
-- Assumes nothing.
use Rattle.std.specs.Prelude.{ℕ, ◌+◌, ◌*◌, ◌/◌, List, Bool, cond, length, get_or, eqb, ltb, ℤ, pos}
use Rattle.loops.specs.Numbers.{to_nat}

abbrev pub row_count : List ℤ → ℕ
row_count rows = length rows / 10

-- column c of row k
unfoldable pub cell : List ℤ → ℕ → ℕ → ℤ
cell rows k c = cond (ltb c 10) (get_or rows (k * 10 + c) (pos 0)) (pos 0)

-- A column that is never negative in an accepted sheet, as a natural number. (A negative number is read as 0. As a kind that is no kind, and in any other
-- column of these classes refusal 3 comes before a definition that reads it.)
abbrev pub num : List ℤ → ℕ → ℕ → ℕ
num rows k c = to_nat (cell rows k c)

-- column c of row k is v
unfoldable pub is : List ℤ → ℕ → ℕ → ℕ → Bool
is rows k c v = eqb (num rows k c) v
