-- The lines that are left of a text, as the iterator over them gives them. Assumes nothing.
use Rattle.std.specs.Prelude.{List}
use Rattle.freebusy_lines.specs.Lines.{Line, line, sent_lines}
use Rattle.freebusy_lines.specs.declared.SentLine.{SentLine}
use Rattle.freebusy_lines.specs.declared.SentLines.{SentLines}

abbrev pub as_sent : SentLine → Line
as_sent l = line l.bytes.now l.ended

abbrev pub lines_left : SentLines → List Line
lines_left l = sent_lines l.rest.now
