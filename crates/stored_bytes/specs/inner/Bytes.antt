-- The bytes that a line of a stored list gives to its case (tools/cases/README.md has the form). Assumes nothing.
use Rattle.std.specs.Prelude.{ℕ, cond, List, [], map, eqb}
use Rattle.stored_lines.specs.inner.Line.{letter, count, piece}
use Rattle.stored_numbers.specs.inner.Numbers.{times}

-- what a byte stands for: | for a line feed, $ for a carriage return, ^ for the byte 0, ~ for the byte 255
unfoldable pub meant : ℕ → ℕ
meant x = cond (eqb x 124) 10 (cond (eqb x 36) 13 (cond (eqb x 94) 0 (cond (eqb x 126) 255 x)))

-- t: bytes of a text
unfoldable pub bytes_of : List ℕ → List ℕ
bytes_of l = cond (eqb (letter l) 116) (times (count l) (map meant (piece l))) []
