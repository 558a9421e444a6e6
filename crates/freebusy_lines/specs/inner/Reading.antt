-- What the readers of a text's lines give on their way: folds and ends of lines, and the first line as it is sent. Assumes nothing.
use Rattle.std.specs.Prelude.{ℕ, Bool, false, cond, ◌&&◌, ◌||◌, not, List, [], ◌∷◌}
use Rattle.freebusy_lines.specs.Lines.{is_blank, is_crlf, starts_blank}

-- a fold comes first
abbrev pub fold_first : List ℕ → Bool
fold_first [] = false
fold_first (x ∷ []) = false
fold_first (x ∷ y ∷ []) = false
fold_first (x ∷ y ∷ z ∷ xs) = is_crlf x y && is_blank z

-- the end of a line comes first
abbrev pub end_first : List ℕ → Bool
end_first [] = false
end_first (x ∷ []) = false
end_first (x ∷ y ∷ xs) = is_crlf x y && not (starts_blank xs)

-- a fold stands somewhere
unfoldable pub is_folded : List ℕ → Bool
is_folded [] = false
is_folded (x ∷ xs) = fold_first (x ∷ xs) || is_folded xs

-- the first line as it is sent: the bytes before the first end of a line, or all of them
unfoldable pub first_sent : List ℕ → List ℕ
first_sent [] = []
first_sent (x ∷ xs) = cond (end_first (x ∷ xs)) [] (x ∷ first_sent xs)
