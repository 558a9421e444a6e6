use mathlib.Core.Path.{◌≡◌}
use mathlib.Core.Bool.{false}
use Rattle.std.specs.Prelude.{None}
use Rattle.chains.specs.Places.{places}
use Rattle.rows.specs.Cells.{row_count}
use Rattle.sheet.specs.Places.{named}
use Rattle.spans.specs.inner.Instants.{meant}
use Rattle.check9_constraints.specs.inner.Starts.{unsynchronized}
use Rattle.check9_constraints.proofs.is_unsynchronized.Given as goal

abbrev pub invariant-loop-k : goal.invariant-loop-k
invariant-loop-k l =
    unsynchronized l.rows l.differing (meant l.last) l.k-iterator ≡ unsynchronized l.rows false None (places (named l.rows 22 l.place) (row_count l.rows))
