use mathlib.Core.Path.{◌≡◌}
use mathlib.Core.List.{foldl}
use Rattle.model.specs.Sheet.{sheet}
use Rattle.load.specs.Load.{cap_override}
use Rattle.load.proofs.Caps.{later_cap}
use Rattle.load.proofs.cap_override.Given as goal

abbrev pub invariant-loop-k : goal.invariant-loop-k
invariant-loop-k l = foldl (later_cap l.rows l.x) l.last l.k-iterator ≡ cap_override (sheet l.rows) l.x
