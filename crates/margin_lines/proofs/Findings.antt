-- A margin is below zero exactly where check 8 or check 5 has a finding. Assumes nothing.
use Prim.Native.Nat.{ℕ, zero, suc}
use mathlib.Core.Path.{◌≡◌, refl, sym, ◌∙◌, ap, ap₂}
use mathlib.Core.Bool.{Bool, true}
use mathlib.Core.List.{List, [], ◌∷◌, ◌++◌, append-nil}
use Rattle.std.specs.Prelude.{Option, None, Some}
use native.Mathlib.Omega.{arith}
use native.Mathlib.Nat.{add-zero}
use borrow.Author.Tests.{eqb-true, lt-ltb, le-ltb}
use lib.Dec.{eqb, ltb}
use lib.IntN.{ℤ, pos, negsuc, neg_ℤ, ◌+ℤ◌, ◌-ℤ◌, +ℤ_comm, +ℤ_idr, neg_ℤ-+ℤ, neg_ℤ-neg_ℤ}
use lib.Signed.{lt_z}
use Rattle.loops.specs.Lists.{given, keep, all_of, option, each}
use Rattle.loops.specs.Numbers.{to_nat}
use Rattle.loops.proofs.ListLaws.{keep_append, each_ext, each_each}
use Rattle.loops.proofs.NumberLaws.{shorter}
use Rattle.loops.proofs.PartLaws.{all_each, keep_all, keep_other}
use Rattle.calendar.specs.Clock.{clock}
use Rattle.model.specs.Sheet.{Sheet, sheet}
use Rattle.model.specs.Task.{Task, tasks, tardiness_ms}
use Rattle.model.specs.Schedule.{task_completion_time, deadline_miss, capacity_exceeded}
use Rattle.load.specs.Load.{cap_of, peak, booked_resources}
use Rattle.definition.specs.CheckDeadlines.{check_deadline, check_deadlines}
use Rattle.definition.specs.CheckCapacity.{check_resource, check_capacity}
use Rattle.definition.specs.CheckSchedule.{findings}
use Rattle.finding_numbers.proofs.Listed.{deadlines_listed, capacity_listed}
use Rattle.margin_lines.specs.declared.lines.Margin.{Margin}
use Rattle.margin_lines.specs.Margins.{TASK, RESOURCE, margin_of, task_margin, resource_margin, margin_lines, margins}
use Rattle.margin_lines.specs.Findings.{finding_of, Exactly}

-- of a task, or of a resource
abbrev is_for : ℕ → Margin → Bool
is_for n m = eqb m.of n

-- ---- of numbers

below_negated : (z : ℤ) → lt_z z (pos 0) ≡ ltb 0 (to_nat (neg_ℤ z))
below_negated (pos zero) = refl
below_negated (pos (suc n)) = le-ltb (suc n) 0 (omega arith)
below_negated (negsuc n) = sym (lt-ltb 0 (suc n) (omega arith))

negated_difference : (x y : ℤ) → neg_ℤ (x -ℤ y) ≡ y -ℤ x
negated_difference x y = neg_ℤ-+ℤ x (neg_ℤ y) ∙ ap (λ z. neg_ℤ x +ℤ z) (neg_ℤ-neg_ℤ y) ∙ +ℤ_comm (neg_ℤ x) y

-- the deadline minus the completion is below zero where the completion is late
late_below : (deadline completion : ℤ) → lt_z (deadline -ℤ completion) (pos 0) ≡ ltb 0 (tardiness_ms clock completion (Some deadline))
late_below d c = below_negated (d -ℤ c) ∙ ap (λ z. ltb 0 (to_nat z)) (negated_difference d c)

-- the limit minus the peak is below zero where the peak is over the limit
over_below : (limit : ℤ) (load : ℕ) → lt_z (limit -ℤ pos load) (pos 0) ≡ lt_z limit (pos load)
over_below (pos n) load = shorter load n 0 ∙ ap (ltb n) (add-zero load)
over_below (negsuc n) zero = ap (λ z. lt_z z (pos 0)) (+ℤ_idr (negsuc n))
over_below (negsuc n) (suc load) = refl

-- ---- of a sheet

module _ (s : Sheet ℤ) where
  task_exactly : (t : Task ℤ) → each finding_of (task_margin clock s t) ≡ check_deadline clock s t
  unfolding each task_margin check_deadline
  task_exactly t = go t.deadline (task_completion_time clock s t.id)
    where
      go : (deadline completion : Option ℤ)
          → each finding_of (option deadline [] λ d. option completion [] λ c. margin_of TASK t.id (d -ℤ c) ∷ [])
          ≡ option completion [] λ c. given (ltb 0 (tardiness_ms clock c deadline)) (deadline_miss 8 t.id)
      go None None = refl
      go None (Some c) = refl
      go (Some d) None = refl
      go (Some d) (Some c) = append-nil _ ∙ ap (λ b. given b (deadline_miss 8 t.id)) (late_below d c)

  resource_exactly : (x : ℕ) → each finding_of (resource_margin clock s x) ≡ check_resource clock s x
  unfolding each resource_margin check_resource
  resource_exactly x = append-nil _ ∙ ap (λ b. given b (capacity_exceeded 5 x)) (over_below (cap_of s x) (peak clock s x))

  tasks_exactly : each finding_of (each (task_margin clock s) (tasks s)) ≡ check_deadlines clock s
  unfolding check_deadlines
  tasks_exactly = each_each finding_of (task_margin clock s) (tasks s) ∙ each_ext _ (check_deadline clock s) task_exactly (tasks s)

  resources_exactly : each finding_of (each (resource_margin clock s) (booked_resources s)) ≡ check_capacity clock s
  unfolding check_capacity
  resources_exactly =
      each_each finding_of (resource_margin clock s) (booked_resources s) ∙ each_ext _ (check_resource clock s) resource_exactly (booked_resources s)

  -- ---- the lines of the tasks, and of the resources

  task_lines : all_of (is_for TASK) (each (task_margin clock s) (tasks s)) ≡ true
  unfolding all_of task_margin
  task_lines = all_each (is_for TASK) (task_margin clock s) (λ t. go t.id t.deadline (task_completion_time clock s t.id)) (tasks s)
    where
      go : (id : ℕ) (deadline completion : Option ℤ) → all_of (is_for TASK) (option deadline [] λ d. option completion [] λ c. margin_of TASK id (d -ℤ c) ∷ []) ≡ true
      go id None completion = refl
      go id (Some d) None = refl
      go id (Some d) (Some c) = refl

  resource_lines : all_of (is_for RESOURCE) (each (resource_margin clock s) (booked_resources s)) ≡ true
  unfolding all_of resource_margin
  resource_lines = all_each (is_for RESOURCE) (resource_margin clock s) (λ x. refl) (booked_resources s)

  tasks_kept : keep (is_for TASK) (margin_lines clock s) ≡ each (task_margin clock s) (tasks s)
  unfolding margin_lines
  tasks_kept =
      keep_append (is_for TASK) (each (task_margin clock s) (tasks s)) (each (resource_margin clock s) (booked_resources s))
      ∙ ap₂ ◌++◌ (keep_all (is_for TASK) _ task_lines) (keep_other (is_for TASK) (is_for RESOURCE) (λ m e. rw (eqb-true m.of RESOURCE e)) _ resource_lines)
      ∙ append-nil (each (task_margin clock s) (tasks s))

  resources_kept : keep (is_for RESOURCE) (margin_lines clock s) ≡ each (resource_margin clock s) (booked_resources s)
  unfolding margin_lines
  resources_kept =
      keep_append (is_for RESOURCE) (each (task_margin clock s) (tasks s)) (each (resource_margin clock s) (booked_resources s))
      ∙ ap₂ ◌++◌ (keep_other (is_for RESOURCE) (is_for TASK) (λ m e. rw (eqb-true m.of TASK e)) _ task_lines) (keep_all (is_for RESOURCE) _ resource_lines)

pub exactly : (rows : List ℤ) → Exactly rows
unfolding margins findings
exactly rows =
    let s : Sheet ℤ = sheet rows in
    record {
      task = task_exactly s;
      resource = resource_exactly s;
      tasks = deadlines_listed clock s ∙ sym (ap (each finding_of) (tasks_kept s) ∙ tasks_exactly s);
      resources = capacity_listed clock s ∙ sym (ap (each finding_of) (resources_kept s) ∙ resources_exactly s);
    }
