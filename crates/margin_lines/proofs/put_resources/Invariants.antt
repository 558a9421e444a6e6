use mathlib.Core.Path.{◌≡◌}
use mathlib.Core.List.{foldl}
use Rattle.loops.specs.Lists.{each}
use Rattle.calendar.specs.Clock.{clock}
use Rattle.chains.specs.inner.Left.{Left}
use Rattle.rows.specs.Cells.{row_count}
use Rattle.model.specs.Sheet.{sheet}
use Rattle.load.specs.Load.{booked_resources}
use Rattle.load.specs.inner.Firsts.{is_first}
use Rattle.margin_lines.specs.Margins.{resource_margin}
use Rattle.margin_lines.specs.inner.Told.{so_far, tell, telling}
use Rattle.margin_lines.proofs.Told.{resource_told}
use Rattle.margin_lines.proofs.put_resources.Given as goal

abbrev pub invariant-loop-k : goal.invariant-loop-k
invariant-loop-k l =
    Left (is_first l.rows) (row_count l.rows) l.k-iterator
    × (foldl (telling (resource_told l.rows)) (so_far l.lines) l.k-iterator
    ≡ tell (so_far l.initial.lines) (each (resource_margin clock (sheet l.rows)) (booked_resources (sheet l.rows))))
