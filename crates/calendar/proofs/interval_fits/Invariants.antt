-- The fit of the windows passed.
use mathlib.Core.Path.{◌≡◌}
use mathlib.Core.List.{map}
use lib.ListN.{take}
use Rattle.calendar.specs.Fit.{fit_of}
use Rattle.calendar.specs.Layout.{window_of}
use Rattle.calendar.proofs.interval_fits.Given as goal

abbrev pub invariant-loop-x : goal.invariant-loop-x
invariant-loop-x l = l.fit ≡ fit_of (map window_of (take l.x-index l.windows)) l.a l.e
