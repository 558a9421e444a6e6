use mathlib.Core.Path.{◌≡◌}
use mathlib.Core.List.{foldl}
use Rattle.loops.specs.Range.{fold}
use Rattle.chains.specs.inner.Left.{Left}
use Rattle.rows.specs.Cells.{row_count}
use Rattle.owners.specs.inner.Owners.{owned_by}
use Rattle.resource_timing.specs.Durations.{TimedSoFar, start}
use Rattle.resource_timing.specs.inner.Limits.{timed_of}
use Rattle.derived_times.specs.inner.Rows.{timed_at}
use Rattle.derived_times.proofs.TimedBookings.timed_of.Given as goal

abbrev pub invariant-loop-j : goal.invariant-loop-j
invariant-loop-j l =
    Left (owned_by l.self.rows.now l.o 23) (row_count l.self.rows.now) l.j-iterator
    × ((g : TimedSoFar)
    × (l.f ≡ timed_of g)
    × (foldl (timed_at l.self.rows.now l.k l.piece) g l.j-iterator ≡ fold (timed_at l.self.rows.now l.k l.piece) start (row_count l.self.rows.now)))
