use mathlib.Core.Path.{◌≡◌}
use mathlib.Core.List.{foldl}
use Rattle.chains.specs.inner.Left.{Left}
use Rattle.findings.specs.inner.Told.{so_far, tell, telling}
use Rattle.rows.specs.Cells.{row_count}
use Rattle.loops.specs.Range.{collect}
use Rattle.calendar.specs.Clock.{clock}
use Rattle.sheet.specs.Places.{of_kind}
use Rattle.model.specs.Sheet.{sheet}
use Rattle.definition.specs.CheckTimeOnly.{check_span_at}
use Rattle.check2_time_only.proofs.check_spans.Given as goal

abbrev pub invariant-loop-k : goal.invariant-loop-k
invariant-loop-k l =
    Left (of_kind l.rows 24) (row_count l.rows) l.k-iterator
    × (foldl (telling (check_span_at clock (sheet l.rows))) (so_far l.found) l.k-iterator ≡ tell (so_far l.initial.found) (collect (check_span_at clock (sheet l.rows)) (row_count l.rows)))
