-- Margins for the morning meeting: how late, or how much slack. Of each task with a deadline and a completion the deadline minus the completion, in
-- milliseconds; of each booked resource its limit minus its peak load, in units. A margin is below zero where the task is late or the resource overloaded.
-- Assumes nothing.
use Rattle.std.specs.Prelude.{ℕ, List, [], ◌∷◌, ◌++◌, ℤ, pos, ◌-ℤ◌}
use Rattle.loops.specs.Lists.{option, each}
use Rattle.line_buffer.specs.Lines.{flat_lines}
use Rattle.calendar.specs.Clock.{Clock, clock}
use Rattle.model.specs.Sheet.{Sheet, sheet}
use Rattle.model.specs.Task as model
use Rattle.model.specs.Task.{tasks}
use Rattle.model.specs.Schedule.{task_completion_time}
use Rattle.load.specs.Load.{cap_of, peak, booked_resources}
use Rattle.margin_lines.specs.declared.lines.Margin.{Margin}
use Rattle.margin_lines.specs.declared.lines.MarginKind.{MarginKind}
use Rattle.margin_lines.specs.declared.lines.MarginKind.TheVariants.{Task, Resource}

-- what a margin is of
abbrev pub TASK : ℕ
TASK = 1

abbrev pub RESOURCE : ℕ
RESOURCE = 2

abbrev pub kind_of_line : MarginKind → ℕ
kind_of_line Task = TASK
kind_of_line Resource = RESOURCE

abbrev pub margin_of : ℕ → ℕ → ℤ → Margin
margin_of of id margin = record { of = of; id = id; margin = margin }

module _ {T : Type 0} (K : Clock T) (s : Sheet T) where
  -- a task without a deadline, or of which nothing is planned, has none
  unfoldable pub task_margin : model.Task T → List Margin
  task_margin t =
      option t.deadline [] λ deadline. option (task_completion_time K s t.id) [] λ completion.
      margin_of TASK t.id (K.minus deadline completion) ∷ []

  unfoldable pub resource_margin : ℕ → List Margin
  resource_margin x = margin_of RESOURCE x (cap_of s x -ℤ pos (peak K s x)) ∷ []

  -- the tasks in the order of their rows, then the resources in the order of their first bookings
  unfoldable pub margin_lines : List Margin
  margin_lines = each task_margin (tasks s) ++ each resource_margin (booked_resources s)

-- the margins of a sheet that is lent as rows
unfoldable pub margins : List ℤ → List Margin
margins rows = margin_lines clock (sheet rows)

-- ---- as lines of three numbers

abbrev pub three : Margin → List ℤ
three m = pos m.of ∷ pos m.id ∷ m.margin ∷ []

unfoldable pub flat_margins : List Margin → List ℤ
flat_margins = flat_lines three
