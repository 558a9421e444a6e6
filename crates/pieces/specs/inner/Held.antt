-- Who is held only as a companion, by row. Assumes nothing.
use Rattle.std.specs.Prelude.{ℕ, Bool, List, ℤ}
use Rattle.loops.specs.Lists.{any_of}
use Rattle.model.specs.Sheet.{sheet}
use Rattle.model.specs.Schedule.{assignment_at}
use Rattle.definition.specs.Pieces.{is_held}
use Rattle.pieces.specs.inner.Marks.{Marks}

-- row k is a booking that is held
unfoldable pub held_at : List ℤ → ℕ → Bool
held_at rows k = any_of (is_held (sheet rows)) (assignment_at (sheet rows) k)

-- marks, true at each booking that is held, false at the other rows and past the last one
abbrev pub Held : List ℤ → List Bool → Type 0
Held rows held = Marks rows (held_at rows) held
