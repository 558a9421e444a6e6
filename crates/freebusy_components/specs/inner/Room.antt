-- What the lent space holds after the lines of a text were unfolded in it, one after the other. Assumes nothing.
use Rattle.std.specs.Prelude.{ℕ, cond, List, [], ◌∷◌, ◌++◌, length, take, drop, Option, None, Some}
use Rattle.freebusy_lines.specs.Lines.{Line, sent_lines, unfolded}
use Rattle.freebusy_lines.specs.inner.Reading.{is_folded}

-- the first n bytes of the space, or the line where there is no n
abbrev pub front_or : Option ℕ → List ℕ → List ℕ → List ℕ
front_or None space sent = sent
front_or (Some n) space sent = take n space

-- a line as it is sent: one that has a fold goes to the front of the space, any other is read where it stands
abbrev pub after_line : List ℕ → List ℕ → List ℕ
after_line sent space = cond (is_folded sent) (unfolded sent ++ drop (length (unfolded sent)) space) space

unfoldable pub after_lines : List Line → List ℕ → List ℕ
after_lines [] space = space
after_lines (l ∷ ls) space = after_lines ls (after_line l.bytes space)

unfoldable pub space_after : List ℕ → List ℕ → List ℕ
space_after text space = after_lines (sent_lines text) space
