-- A margin is below zero exactly where check 8 or check 5 has a finding: a task's where that task has one, a resource's where that resource has one.
-- Assumes nothing.
use Rattle.std.specs.Prelude.{ℕ, ◌≡◌, cond, List, eqb, ℤ, pos}
use Rattle.std.specs.Int.Signed.{lt_z}
use Rattle.loops.specs.Lists.{given, keep, each}
use Rattle.calendar.specs.Clock.{clock}
use Rattle.findings.specs.declared.Violation.{Violation}
use Rattle.model.specs.Sheet.{sheet}
use Rattle.model.specs.Task.{Task}
use Rattle.model.specs.Schedule.{deadline_miss, capacity_exceeded}
use Rattle.definition.specs.CheckDeadlines.{check_deadline}
use Rattle.definition.specs.CheckCapacity.{check_resource}
use Rattle.definition.specs.CheckSchedule.{findings}
use Rattle.margin_lines.specs.declared.lines.Margin.{Margin}
use Rattle.margin_lines.specs.Margins.{TASK, RESOURCE, task_margin, resource_margin, margins}

-- the finding that a margin tells of, where it is below zero
abbrev pub finding_of : Margin → List Violation
finding_of m = given (lt_z m.margin (pos 0)) (cond (eqb m.of TASK) (deadline_miss 8 m.id) (capacity_exceeded 5 m.id))

-- of any rows
pub record Exactly (rows : List ℤ) : Type 0 where
  -- line by line: what the margin of a task tells of is what check 8 finds of that task, and so with a resource and check 5; without a line, no finding
  pub task : (t : Task ℤ) → each finding_of (task_margin clock (sheet rows) t) ≡ check_deadline clock (sheet rows) t
  pub resource : (x : ℕ) → each finding_of (resource_margin clock (sheet rows) x) ≡ check_resource clock (sheet rows) x
  -- the whole lists: of all findings those of check 8 are what the lines of the tasks tell of, in their order, those of check 5 what the lines of the resources do
  pub tasks : keep (λ f. eqb f.check 8) (findings rows) ≡ each finding_of (keep (λ m. eqb m.of TASK) (margins rows))
  pub resources : keep (λ f. eqb f.check 5) (findings rows) ≡ each finding_of (keep (λ m. eqb m.of RESOURCE) (margins rows))
