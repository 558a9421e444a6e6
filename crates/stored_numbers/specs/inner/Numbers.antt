-- The numbers that a line of a stored list gives to its case (tools/cases/README.md has the form). Assumes nothing.
use Rattle.std.specs.Prelude.{ℕ, zero, suc, cond, List, [], ◌++◌, map, eqb, ltb, ℤ, Option, None, Some}
use Rattle.text_line.specs.Line.{fields_of, value_of, row_of}
use Rattle.stored_lines.specs.inner.Line.{letter, count, piece}

-- something so often, one after the other
unfoldable pub times : {A : Type 0} → ℕ → List A → List A
times zero xs = []
times (suc n) xs = xs ++ times n xs

-- the numbers of fields that are parted by commas
abbrev pub numbers_in : List ℕ → List ℤ
numbers_in s = map value_of (fields_of s)

-- n: plain numbers; r: rows, with zeros up to ten numbers
unfoldable pub numbers_of : List ℕ → List ℤ
numbers_of l = cond (eqb (letter l) 110) (times (count l) (numbers_in (piece l))) (cond (eqb (letter l) 114) (times (count l) (row_of (piece l))) [])

-- e: numbers expected
unfoldable pub expected_of : List ℕ → List ℤ
expected_of l = cond (eqb (letter l) 101) (times (count l) (numbers_in (piece l))) []

-- so many numbers or bytes, where there is room for more than them
abbrev pub gathered : ℕ → ℕ → Option ℕ
gathered n room = cond (ltb n room) (Some n) None
