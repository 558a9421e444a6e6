use Rattle.derived_times.specs.Times.{time_fault}
use Rattle.loops.specs.Search.{first}
use Rattle.std.specs.Prelude.{None}
use mathlib.Core.Path.{◌≡◌}
use Rattle.derived_times.proofs.refused.Given as goal

abbrev pub invariant-loop-k : goal.invariant-loop-k
invariant-loop-k l = first (time_fault l.rows) l.k ≡ None
