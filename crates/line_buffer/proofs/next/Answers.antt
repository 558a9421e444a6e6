use mathlib.Core.Path.{sym}
use Rattle.line_buffer.proofs.LineLaws.{more_below, more_at}
use Rattle.line_buffer.proofs.next.Goals as goal

pub returns-then-n-lt1152921504606846976 : goal.returns-then-n-lt1152921504606846976
returns-then-n-lt1152921504606846976 c = sym (more_below _ c.if-n-lt1152921504606846976.true)

pub returns-else-n-lt1152921504606846976 : goal.returns-else-n-lt1152921504606846976
returns-else-n-lt1152921504606846976 c = sym (more_at _ c.if-n-lt1152921504606846976.false)
