-- What the calendars passed leave.
use mathlib.Core.Path.{◌≡◌}
use lib.ListN.{take}
use Rattle.calendar.specs.Layout.{lists_of}
use Rattle.calendar.specs.inner.Scan.{joint_look, last_instant, AllEndBy}
use Rattle.calendar.proofs.Calendars.look.Given as goal

abbrev pub invariant-loop-places : goal.invariant-loop-places
invariant-loop-places l = record {
  value : l.all ≡ joint_look (lists_of l.self.windows.now (take l.places-index l.places-items)) l.t l.b;
  ends : AllEndBy last_instant (lists_of l.self.windows.now (take l.places-index l.places-items));
}
