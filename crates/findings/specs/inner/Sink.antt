-- How findings are written to a lent buffer, and counted: what the checks' contracts speak of. Assumes nothing.
use Rattle.std.specs.Prelude.{List}
use Rattle.line_buffer.specs.inner.Sink.{put_line, put_lines}
use Rattle.findings.specs.declared.Violation.{Violation}
use Rattle.findings.specs.Findings.{four}
-- the lent buffer, and how many findings were found so far
pub use Rattle.line_buffer.specs.inner.Sink.{Sink, sink}

-- one finding: written at its place where the buffer holds it, and counted in any case
unfoldable pub put1 : Sink → Violation → Sink
put1 s f = put_line 4 s (four f)

-- findings, one after the other
unfoldable pub emit : Sink → List Violation → Sink
emit = put_lines 4 four
