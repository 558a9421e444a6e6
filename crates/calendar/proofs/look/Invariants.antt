-- What the windows passed say of t, and the next stop that they leave.
use mathlib.Core.Path.{◌≡◌}
use mathlib.Core.List.{map}
use lib.IntN.{pos}
use lib.ListN.{take}
use Rattle.calendar.specs.Clock.{clock}
use Rattle.calendar.specs.Calendar.{contains}
use Rattle.calendar.specs.Fit.{standing_of}
use Rattle.calendar.specs.Layout.{window_of}
use Rattle.calendar.specs.inner.Scan.{next_stop, last_instant, EndsBy}
use Rattle.calendar.proofs.look.Given as goal

abbrev pub invariant-loop-x : goal.invariant-loop-x
invariant-loop-x l = record {
  standing : l.standing ≡ standing_of (contains clock (pos l.t)) (contains clock (pos l.t)) (map window_of (take l.x-index l.windows));
  stop : l.stop ≡ next_stop (take l.x-index l.windows) l.t l.b;
  ends : EndsBy last_instant (take l.x-index l.windows);
}
