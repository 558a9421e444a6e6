-- What a line gives, where it is one of those that are asked for. Assumes nothing.
use Rattle.std.specs.Prelude.{ℕ, cond, List, [], eqb, ℤ, Option, None, Some}
use Rattle.loops.specs.Lists.{option}
use Rattle.text_line.specs.Line.{row_of}
use Rattle.stored_lines.specs.inner.Line.{letter, count, piece}
use Rattle.stored_numbers.specs.inner.Numbers.{times, numbers_in}
use Rattle.stored_numbers.specs.declared.Asked.{Asked}
use Rattle.stored_numbers.specs.declared.Asked.TheVariants.{Input, Expected}
use Rattle.stored_numbers.specs.declared.Piece.{Piece}
use Rattle.stored_numbers.specs.declared.Piece.TheVariants.{Numbers, Row}

abbrev pub piece_as : Piece → List ℕ → List ℤ
piece_as Numbers s = numbers_in s
piece_as Row s = row_of s

-- n: plain numbers; r: rows; e: numbers expected
abbrev pub piece_by : Asked → ℕ → Option Piece
piece_by Input x = cond (eqb x 110) (Some Numbers) (cond (eqb x 114) (Some Row) None)
piece_by Expected x = cond (eqb x 101) (Some Numbers) None

unfoldable pub line_gives : Asked → List ℕ → List ℤ
line_gives asked l = option (piece_by asked (letter l)) [] (λ p. times (count l) (piece_as p (piece l)))
