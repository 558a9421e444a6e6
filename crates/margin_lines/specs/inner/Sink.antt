-- How margins are written to a lent buffer, and counted. Assumes nothing.
use Rattle.std.specs.Prelude.{List}
use Rattle.line_buffer.specs.inner.Sink.{put_lines}
use Rattle.margin_lines.specs.declared.lines.Margin.{Margin}
use Rattle.margin_lines.specs.Margins.{three}
pub use Rattle.line_buffer.specs.inner.Sink.{Sink, sink}

abbrev pub emit_margins : Sink → List Margin → Sink
emit_margins = put_lines 3 three
