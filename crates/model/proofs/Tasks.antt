-- What is found for each activity of each task, by rows. Assumes nothing.
use Prim.Native.Nat.{ℕ, ◌<◌}
use mathlib.Core.Path.{◌≡◌, refl, sym, ap, ◌∙◌}
use mathlib.Core.Bool.{Bool, true, false, cond, ◌&&◌}
use mathlib.Core.List.{List, [], append-nil}
use lib.Dec.{eqb}
use lib.IntN.{ℤ}
use Rattle.loops.specs.Lists.{each}
use Rattle.loops.specs.Range.{collect}
use Rattle.loops.specs.inner.Chain.{only}
use Rattle.loops.proofs.RangeLaws.{collect_ext}
use Rattle.loops.proofs.ListLaws.{each_collect, each_keep}
use Rattle.rows.specs.Cells.{row_count, num, is}
use Rattle.sheet.specs.Places.{of_kind}
use Rattle.sheet.specs.inner.Accepted.{Accepted}
use Rattle.owners.specs.inner.Owners.{owner_kind, owned_by}
use Rattle.model.specs.Sheet.{sheet}
use Rattle.model.specs.Task.{Task, task_at, tasks}
use Rattle.model.specs.Activity.{Activity, activity_at, activities, activities_of}
use Rattle.model.specs.inner.Records.{task_of, activity_of}
use Rattle.model.proofs.RowLaws.{task_row, task_none, activity_row, activity_none}
use Rattle.model.proofs.OwnedLaws.{of_task}
use Rattle.model.proofs.Accepting.{task_at_lem}

module _ {B : Type 0} (rows : List ℤ) (acc : Accepted rows) (check : Activity ℤ → List B) (found : ℕ → List B)
    (same : (o : ℕ) → o < row_count rows → is rows o 0 2 ≡ true → check (activity_of rows o) ≡ found o) where
  -- the activities of the task of row t
  abbrev in_task : ℕ → List B
  in_task t = collect (only (owned_by rows t 2) found) (row_count rows)

  module _ (t : ℕ) (l : t < row_count rows) (h : is rows t 0 1 ≡ true) where
    check_in : Activity ℤ → List B
    check_in a = cond (eqb a.task (num rows t 1)) (check a) []

    activity_is : (o : ℕ) → o < row_count rows → each check_in (activity_at (sheet rows) o) ≡ only (owned_by rows t 2) found o
    unfolding only check_in each is
    activity_is o m = go (is rows o 0 2) refl ∙ ap (λ b. cond b (found o) []) (sym (of_task rows 2 t (num rows t 1) (unfold owner_kind in refl) (task_at_lem rows acc t l h) o))
      where
        go : (b : Bool) → is rows o 0 2 ≡ b → each check_in (activity_at (sheet rows) o) ≡ cond (is rows o 0 2 && is rows o 2 (num rows t 1)) (found o) []
        go true e = ap (each check_in) (activity_row rows o e) ∙ append-nil (check_in (activity_of rows o))
            ∙ ap (λ y. cond (eqb (num rows o 2) (num rows t 1)) y []) (same o m e)
            ∙ ap (λ b. cond (b && is rows o 2 (num rows t 1)) (found o) []) (sym e)
        go false e = ap (each check_in) (activity_none rows o e) ∙ ap (λ b. cond (b && is rows o 2 (num rows t 1)) (found o) []) (sym e)

    task_is : each check (activities_of (sheet rows) (num rows t 1)) ≡ in_task t
    unfolding activities_of activities check_in
    task_is =
        each_keep check (λ a. eqb a.task (num rows t 1)) (collect (activity_at (sheet rows)) (row_count rows))
        ∙ each_collect check_in (activity_at (sheet rows)) (row_count rows)
        ∙ collect_ext _ _ (row_count rows) activity_is

  abbrev per_task : Task ℤ → List B
  per_task t = each check (activities_of (sheet rows) t.id)

  task_row_is : (t : ℕ) → t < row_count rows → each per_task (task_at (sheet rows) t) ≡ only (of_kind rows 1) in_task t
  unfolding only of_kind each
  task_row_is t l = go (is rows t 0 1) refl
    where
      go : (b : Bool) → is rows t 0 1 ≡ b → each per_task (task_at (sheet rows) t) ≡ cond (is rows t 0 1) (in_task t) []
      go true e = ap (each per_task) (task_row rows t e) ∙ append-nil (per_task (task_of rows t)) ∙ task_is t l e ∙ ap (λ b. cond b (in_task t) []) (sym e)
      go false e = ap (each per_task) (task_none rows t e) ∙ ap (λ b. cond b (in_task t) []) (sym e)

  pub tasks_by_rows : collect (only (of_kind rows 1) in_task) (row_count rows) ≡ each per_task (tasks (sheet rows))
  unfolding tasks
  tasks_by_rows = sym (each_collect per_task (task_at (sheet rows)) (row_count rows) ∙ collect_ext _ _ (row_count rows) task_row_is)
