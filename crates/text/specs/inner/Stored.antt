-- What the loop over the lines stores before it knows the answer: the public promises do not speak of it. Assumes nothing.
use Rattle.std.specs.Prelude.{Result, Ok, Err, ℕ, suc, cond, List, [], ◌∷◌, ◌++◌, ltb, ℤ}
use Rattle.refusals.specs.declared.Reason.{Reason}
use Rattle.text_line.specs.Line.{line_of, row_of}

abbrev pub on_row : Result Unit Reason → List ℤ → List ℤ
on_row (Ok tt) zs = zs
on_row (Err k) zs = []

-- the numbers of the lines up to the first that is refused, that one's among them
unfoldable pub rows_read : ℕ → ℕ → List (List ℕ) → List ℤ
rows_read lent p [] = []
rows_read lent p (l ∷ []) = []
rows_read lent p (l ∷ m ∷ ls) = row_of l ++ on_row (line_of l) (cond (ltb p lent) (rows_read lent (suc p) (m ∷ ls)) [])
