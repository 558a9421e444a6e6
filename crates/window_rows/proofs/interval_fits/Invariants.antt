use mathlib.Core.Path.{◌≡◌}
use mathlib.Core.List.{◌++◌, map}
use lib.IntN.{ℤ}
use Rattle.rows.specs.Cells.{num}
use Rattle.rows.specs.Kinds.{kind_number}
use Rattle.calendar.specs.Calendar.{Calendar}
use Rattle.calendar.specs.Fit.{fit_of}
use Rattle.model.specs.Sheet.{sheet}
use Rattle.model.specs.Resource.{windows}
use Rattle.window_rows.proofs.WindowRows.{window_row}
use Rattle.window_rows.proofs.interval_fits.Given as goal

abbrev pub invariant-loop-k : goal.invariant-loop-k
invariant-loop-k l =
    (c : Calendar ℤ)
    × (l.fit ≡ fit_of c l.a l.e)
    × (c ++ map (window_row l.rows) l.k-iterator ≡ windows (sheet l.rows) (kind_number l.fn.kind) (num l.rows l.o 1))
