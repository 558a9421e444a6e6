use Rattle.owners.proofs.Tables.{Numbering}
use Rattle.owners.proofs.number_rows.Given as goal

abbrev pub invariant-loop-k : goal.invariant-loop-k
invariant-loop-k l = Numbering l.rows l.k l.next l.t
