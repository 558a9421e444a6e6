use Rattle.std.proofs.Common.{◌≡◌}
use Rattle.std.specs.Prelude.{None}
use Rattle.loops.specs.Search.{first_place}
use Rattle.sheet.specs.Places.{named}
use Rattle.sheet.proofs.look_for.Given as goal

abbrev pub invariant-loop-k : goal.invariant-loop-k
invariant-loop-k g l = first_place (named (g.T.Rows.rows l.fn.rows) l.fn.x l.fn.id) l.k ≡ None
