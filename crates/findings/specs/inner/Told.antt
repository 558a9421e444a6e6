-- Where findings are written: the lent buffer by its name, what stands in it, and how many findings were found so far. Assumes nothing.
use Rattle.std.specs.Prelude.{ℕ, List}
use Rattle.findings.specs.declared.Violation.{Violation}
use Rattle.findings.specs.declared.Findings.{Findings}
use Rattle.findings.specs.inner.Sink.{sink, emit}
pub use Rattle.line_buffer.specs.inner.Told.{Told}

abbrev pub so_far : Findings → Told
so_far f = record { name = f.out.ghost_name; sink = sink f.out.now f.found }

-- findings, one after the other
abbrev pub tell : Told → List Violation → Told
tell t fs = record { name = t.name; sink = emit t.sink fs }

-- what f tells of a place
abbrev pub telling : (ℕ → List Violation) → Told → ℕ → Told
telling f t k = tell t (f k)
