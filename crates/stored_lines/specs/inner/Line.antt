-- A line of a stored list (tools/cases/README.md has the form): a letter, and then, of a line that gathers, a count, a comma and what is
-- gathered so often. Bytes are given by their numbers. Assumes nothing.
use Rattle.std.specs.Prelude.{ℕ, ◌+◌, Bool, true, false, cond, ◌&&◌, List, eqb, ltb, leb, length, get_or, drop}
use Rattle.loops.specs.Numbers.{to_nat}
use Rattle.text_fields.specs.Parts.{until_byte}
use Rattle.text_line.specs.Line.{fields_of, value_of, spelled}

-- the letter, 0 for an empty line; what follows it; the count before the first comma; what follows that comma
abbrev pub letter : List ℕ → ℕ
letter l = get_or l 0 0

abbrev pub body : List ℕ → List ℕ
body l = drop 1 l

abbrev pub count : List ℕ → ℕ
count l = to_nat (value_of (until_byte 44 (body l)))

abbrev pub piece : List ℕ → List ℕ
piece l = drop (length (until_byte 44 (body l)) + 1) (body l)

-- a line that has what was gathered judged starts with a capital letter
unfoldable pub is_judging : List ℕ → Bool
is_judging l = leb 65 (letter l) && leb (letter l) 90

-- a count of 1 or more, and a comma after it
unfoldable pub has_count : List ℕ → Bool
has_count l = ltb 0 (count l) && ltb (length (until_byte 44 (body l))) (length (body l))

-- then numbers; of a row at most ten, after the count
unfoldable pub has_numbers : List ℕ → Bool
has_numbers l = has_count l && spelled (fields_of (body l))

unfoldable pub has_row : List ℕ → Bool
has_row l = has_numbers l && ltb (length (fields_of (body l))) 12

-- a line that judges has numbers after its letter; an empty line and a remark (#) have anything
unfoldable pub is_formed : List ℕ → Bool
is_formed l =
    cond (is_judging l) (spelled (fields_of (body l)))
    (cond (eqb (length l) 0) true
    (cond (eqb (letter l) 35) true
    (cond (eqb (letter l) 116) (has_count l)
    (cond (eqb (letter l) 114) (has_row l)
    (cond (eqb (letter l) 110) (has_numbers l)
    (cond (eqb (letter l) 101) (has_numbers l)
    false))))))
