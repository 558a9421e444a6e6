-- A case of a stored list: the lines up to the first that has them judged, and that line. Assumes nothing.
use Rattle.std.specs.Prelude.{ℕ, ◌+◌, min, cond, List, [], ◌∷◌, ◌≡◌, length, drop}
use Rattle.text_fields.specs.Parts.{until_byte, parts}
use Rattle.stored_lines.specs.inner.Line.{is_judging}
use Rattle.stored_lines.specs.declared.Case.{Case}

-- how many bytes the lines before the first that judges have, with their line feeds
unfoldable pub gathering_length : List (List ℕ) → ℕ
gathering_length [] = 0
gathering_length (l ∷ ls) = cond (is_judging l) 0 (length l + 1 + gathering_length ls)

-- where the first line from a place on starts that judges, or the list's end
abbrev pub judging_at : List ℕ → ℕ → ℕ
judging_at list at = min (at + gathering_length (parts 10 (drop at list))) (length list)

-- the case from a place on: where it starts, where the line that judges it starts, where that line ends, and where the next case starts
pub record CaseAt (list : List ℕ) (at : ℕ) (c : Case) : Type 0 where
  pub start : c.start ≡ at
  pub line : c.line ≡ judging_at list at
  pub end : c.end ≡ c.line + length (until_byte 10 (drop c.line list))
  pub next : c.next ≡ min (c.end + 1) (length list)
