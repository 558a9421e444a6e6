-- A lent buffer of lines of w numbers each, and how many lines were found so far. Assumes nothing.
use Rattle.std.specs.Prelude.{ℕ, ◌+◌, ◌*◌, ◌/◌, ◌^◌, cond, List, [], ◌∷◌, length, ltb, ℤ}
use Rattle.std.proofs.lemmas.List.Edits.{sets}

pub record Sink : Type 0 where
  pub buf : List ℤ
  pub count : ℕ

abbrev pub sink : List ℤ → ℕ → Sink
sink o n = record { buf = o; count = n }

-- the count goes on to 2 ^ 60, more than any buffer holds
abbrev pub more : ℕ → ℕ
more n = cond (ltb n (2 ^ 60)) (n + 1) n

-- one line: written at its place where the buffer holds it, and counted in any case
unfoldable pub put_line : ℕ → Sink → List ℤ → Sink
put_line w s line =
    sink
    (cond (ltb s.count (length s.buf / w)) (sets s.buf (s.count * w) line) s.buf)
    (more s.count)

-- the lines of what is found, one after the other
module _ {X : Type 0} (w : ℕ) (numbers : X → List ℤ) where
  unfoldable pub put_lines : Sink → List X → Sink
  put_lines s [] = s
  put_lines s (x ∷ xs) = put_lines (put_line w s (numbers x)) xs
