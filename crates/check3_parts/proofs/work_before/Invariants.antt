use mathlib.Core.Path.{◌≡◌}
use mathlib.Core.List.{foldl}
use Rattle.rows.specs.Cells.{cell}
use Rattle.definition.specs.CheckParts.{work_of}
use Rattle.check3_parts.specs.inner.Booked.{parts_below, given_by}
use Rattle.check3_parts.proofs.work_before.Given as goal

abbrev pub invariant-loop-i : goal.invariant-loop-i
invariant-loop-i l = foldl (given_by l.rows l.k) l.work l.i-iterator ≡ work_of (parts_below l.rows l.o l.k) (cell l.rows l.k 7)
