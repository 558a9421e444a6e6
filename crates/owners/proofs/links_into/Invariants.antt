use Rattle.owners.proofs.Tables.{Filling}
use Rattle.owners.proofs.links_into.Given as goal

abbrev pub invariant-loop-k : goal.invariant-loop-k
invariant-loop-k l = Filling l.rows l.n l.k l.t.owners l.t.resources
