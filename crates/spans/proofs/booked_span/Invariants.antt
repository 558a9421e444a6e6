use mathlib.Core.Path.{◌≡◌}
use mathlib.Core.List.{foldl}
use Rattle.std.specs.Prelude.{None}
use Rattle.loops.specs.Range.{fold}
use Rattle.loops.specs.inner.Chain.{only_at}
use Rattle.rows.specs.Cells.{row_count}
use Rattle.sheet.specs.Places.{named}
use Rattle.spans.specs.inner.Activities.{span_meant, widen_by}
use Rattle.spans.proofs.booked_span.Given as goal

abbrev pub invariant-loop-k : goal.invariant-loop-k
invariant-loop-k l =
    foldl (widen_by l.rows) (span_meant l.x) l.k-iterator ≡ fold (only_at (named l.rows 23 l.id) (widen_by l.rows)) None (row_count l.rows)
