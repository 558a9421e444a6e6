-- Where margins are written: the lent buffer by its name, what stands in it, and how many lines there are. Assumes nothing.
use Rattle.std.specs.Prelude.{ℕ, List}
use Rattle.line_buffer.specs.inner.Told as lines
use Rattle.margin_lines.specs.declared.lines.Margin.{Margin}
use Rattle.margin_lines.specs.declared.lines.Lines.{Lines}
use Rattle.margin_lines.specs.Margins.{three}
use Rattle.margin_lines.specs.inner.Sink.{sink}
pub use Rattle.line_buffer.specs.inner.Told.{Told}

abbrev pub so_far : Lines → Told
so_far l = record { name = l.out.ghost_name; sink = sink l.out.now l.count }

-- margins, one after the other
abbrev pub tell : Told → List Margin → Told
tell = lines.tell 3 three

-- what f tells of a place
abbrev pub telling : (ℕ → List Margin) → Told → ℕ → Told
telling = lines.telling 3 three
