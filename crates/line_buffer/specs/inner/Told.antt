-- Where lines are written: the lent buffer by its name, what stands in it, and how many lines were found so far. Assumes nothing.
use Rattle.std.specs.Prelude.{ℕ, List, ℤ}
use Rattle.line_buffer.specs.inner.Sink.{Sink, put_lines}

pub record Told : Type 0 where
  pub name : ℕ
  pub sink : Sink

module _ {X : Type 0} (w : ℕ) (numbers : X → List ℤ) where
  -- the lines of what is found, one after the other
  abbrev pub tell : Told → List X → Told
  tell t xs = record { name = t.name; sink = put_lines w numbers t.sink xs }

  -- what f tells of a place
  abbrev pub telling : (ℕ → List X) → Told → ℕ → Told
  telling f t k = tell t (f k)
