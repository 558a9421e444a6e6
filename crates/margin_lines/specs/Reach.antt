-- How far margins reach in an accepted sheet: a task's 4,000,000,000,000 on both sides of zero, and Examples shows that it gets there; a resource's never
-- comes near that. Assumes nothing.
use Rattle.std.specs.Prelude.{ℕ, ◌≡◌, Bool, true, List, leb, ℤ, nat_abs, None}
use Rattle.loops.specs.Lists.{all_of, each}
use Rattle.calendar.specs.Clock.{clock}
use Rattle.model.specs.Sheet.{sheet}
use Rattle.model.specs.Task.{tasks}
use Rattle.load.specs.Load.{booked_resources}
use Rattle.acceptance.specs.Refusals.{sheet_refusal}
use Rattle.margin_lines.specs.declared.lines.Margin.{Margin}
use Rattle.margin_lines.specs.Margins.{task_margin, resource_margin}

-- at most so far from zero, either way
abbrev pub within : ℕ → Margin → Bool
within most m = leb (nat_abs m.margin) most

pub record Reach (rows : List ℤ) : Type 0 where
  pub tasks : all_of (within 4_000_000_000_000) (each (task_margin clock (sheet rows)) (tasks (sheet rows))) ≡ true
  -- a limit lies within 1,000,000, and 800 bookings take 1,000,000 units each at most
  pub resources : all_of (within 801_000_000) (each (resource_margin clock (sheet rows)) (booked_resources (sheet rows))) ≡ true

abbrev pub ReachOfAccepted : Type 0
ReachOfAccepted = (rows : List ℤ) → sheet_refusal rows ≡ None → Reach rows
