use Rattle.sheet.proofs.Naming.{Filled}
use Rattle.sheet.proofs.kinds_into.Given as goal

abbrev pub invariant-loop-i : goal.invariant-loop-i
invariant-loop-i l = Filled l.rows l.n l.i l.t.kinds l.t.names
