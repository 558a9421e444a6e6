use mathlib.Core.Path.{◌≡◌}
use mathlib.Core.List.{foldl}
use Rattle.loops.specs.Range.{fold}
use Rattle.loops.specs.inner.Chain.{only_at}
use Rattle.rows.specs.Cells.{row_count}
use Rattle.rows.specs.Kinds.{kind_number}
use Rattle.sheet.specs.Places.{of_kind}
use Rattle.spans.specs.inner.Instants.{meant, end_if}
use Rattle.spans.proofs.latest_end.Given as goal

abbrev pub invariant-loop-k : goal.invariant-loop-k
invariant-loop-k l =
    foldl (end_if l.rows l.c l.task) (meant l.e) l.k-iterator
    ≡ fold (only_at (of_kind l.rows (kind_number l.fn.kind)) (end_if l.rows l.c l.task)) (meant l.initial.e) (row_count l.rows)
