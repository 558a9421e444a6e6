-- The system's words for a failure, alone: what the standard library writes of a failure are these words and then, in brackets, its number. Assumes nothing.
use Rattle.std.specs.Prelude.{ℕ, cond, List, [], ◌∷◌, codes, nat_eq}
use Rattle.std.specs.List.{starts_with}
use Rattle.std.specs.Str.{is_utf8}

-- what stands before the first place where the other text begins; all, where there is none
unfoldable pub before_text : List ℕ → List ℕ → List ℕ
before_text [] stop = []
before_text (x ∷ xs) stop = cond (starts_with nat_eq (x ∷ xs) stop) [] (x ∷ before_text xs stop)

-- bytes that are text; nothing in place of others
abbrev pub text_of : List ℕ → List ℕ
text_of bytes = cond (is_utf8 bytes) bytes []

-- of what was written, the words
abbrev pub words_alone : List ℕ → List ℕ
words_alone written = before_text (text_of written) (codes " (os error ")
