-- A text: lines, each ended by a line feed. It gives its rows, or it is refused: by 8, or at the first line that is refused by 9, 2, 9 (see
-- Line) or, past the lent rows, 10. Assumes nothing.
use Rattle.std.specs.Prelude.{ℕ, suc, ◌*◌, cond, List, [], ◌∷◌, ◌++◌, ltb, length, drop, ℤ, Result, Ok, Err}
use Rattle.loops.specs.Lists.{is_empty}
use Rattle.text_fields.specs.Parts.{parts}
use Rattle.text_line.specs.Line.{line_of, row_of}
use Rattle.refusals.specs.Refusals.{at}
use Rattle.refusals.specs.declared.Reason.{Reason}
use Rattle.refusals.specs.declared.Reason.TheVariants.{Overlong, Misspelt, Crowded}
use Rattle.refusals.specs.declared.Refusal.{Refusal}

-- a line at place p: what follows it, or its refusal
abbrev pub after_line : Result Unit Reason → ℕ → Result ℕ Refusal → Result ℕ Refusal
after_line (Ok _) p a = a
after_line (Err reason) p a = Err (at reason p)

-- the lines from place p on, where `lent` rows are lent. What stands after the last line feed is no line: it is empty, or a line that is not ended
unfoldable pub answer_from : ℕ → ℕ → List (List ℕ) → Result ℕ Refusal
answer_from lent p [] = Ok p
answer_from lent p (l ∷ []) = cond (is_empty l) (Ok p) (Err (at Misspelt p))
answer_from lent p (l ∷ m ∷ ls) = after_line (line_of l) p (cond (ltb p lent) (answer_from lent (suc p) (m ∷ ls)) (Err (at Crowded p)))

-- the answer to a text, where `lent` rows are lent
unfoldable pub answer_of : List ℕ → ℕ → Result ℕ Refusal
answer_of text lent = cond (ltb 65536 (length text)) (Err (at Overlong 0)) (answer_from lent 0 (parts 10 text))

-- the numbers of the lines' rows, ten for each line
unfoldable pub rows_of : List (List ℕ) → List ℤ
rows_of [] = []
rows_of (l ∷ []) = []
rows_of (l ∷ m ∷ ls) = row_of l ++ rows_of (m ∷ ls)

-- the lent numbers after that answer: the rows, with what follows them as it was; a refusal changes none
abbrev pub rows_after : Result ℕ Refusal → List ℕ → List ℤ → List ℤ
rows_after (Ok n) text rows = rows_of (parts 10 text) ++ drop (10 * n) rows
rows_after (Err e) text rows = rows
