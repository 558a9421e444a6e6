-- A sheet's numbers alone: every cell that is no number is 0. What reads no instant reads the same of them. Assumes nothing.
use Prim.Native.Nat.{ℕ}
use mathlib.Core.Path.{◌≡◌, refl, sym, ◌∙◌, ap}
use mathlib.Core.Bool.{Bool, true, false, cond}
use mathlib.Core.List.{List, [], ◌∷◌, ◌++◌}
use lib.Dec.{eqb}
use Rattle.loops.specs.Lists.{each}
use Rattle.loops.proofs.ListLaws.{each_collect, each_keep}
use Rattle.loops.proofs.RangeLaws.{collect_ext}
use Rattle.model.specs.Sheet.{Sheet, number, as_int, is_kind}
use Rattle.model.specs.Task.{Task, task_at, tasks}
use Rattle.model.specs.Activity.{Activity, activity_at, activities, activities_of}

abbrev pub numbers : {T : Type 0} → Sheet T → Sheet T
numbers s = record { count = s.count; cell = λ k c. number (as_int (s.cell k c)) }

-- f of the one element that the test gives
each_one : {A B : Type 0} (f : A → List B) (b : Bool) (x y : A) → f x ≡ f y → each f (cond b (x ∷ []) []) ≡ each f (cond b (y ∷ []) [])
unfolding each
each_one f true x y h = ap (λ l. l ++ []) h
each_one f false x y h = refl

module _ {T B : Type 0} (s : Sheet T) where
  -- what is made of the tasks by their ids
  pub each_task : (f : ℕ → List B) → each (λ t. f t.id) (tasks s) ≡ each (λ t. f t.id) (tasks (numbers s))
  unfolding tasks task_at
  each_task f =
      each_collect (λ t. f t.id) (task_at s) s.count
      ∙ collect_ext (λ k. each (λ (t : Task T). f t.id) (task_at s k)) (λ k. each (λ (t : Task T). f t.id) (task_at (numbers s) k)) s.count
      (λ k l. each_one (λ (t : Task T). f t.id) (is_kind s 1 k) _ _ refl)
      ∙ sym (each_collect (λ t. f t.id) (task_at (numbers s)) s.count)

  -- what is made of the activities by their ids and tasks
  each_activity_lem : (f : ℕ → ℕ → List B)
      → each (λ a. f a.task a.id) (activities s) ≡ each (λ a. f a.task a.id) (activities (numbers s))
  unfolding activities activity_at
  each_activity_lem f =
      each_collect (λ a. f a.task a.id) (activity_at s) s.count
      ∙ collect_ext (λ k. each (λ (a : Activity T). f a.task a.id) (activity_at s k))
      (λ k. each (λ (a : Activity T). f a.task a.id) (activity_at (numbers s) k))
      s.count
      (λ k l. each_one (λ (a : Activity T). f a.task a.id) (is_kind s 2 k) _ _ refl)
      ∙ sym (each_collect (λ a. f a.task a.id) (activity_at (numbers s)) s.count)

  pub each_activity_of : (f : ℕ → List B) (t : ℕ)
      → each (λ a. f a.id) (activities_of s t) ≡ each (λ a. f a.id) (activities_of (numbers s) t)
  unfolding activities_of
  each_activity_of f t =
      each_keep (λ (a : Activity T). f a.id) (λ a. eqb a.task t) (activities s)
      ∙ each_activity_lem (λ task id. cond (eqb task t) (f id) [])
      ∙ sym (each_keep (λ (a : Activity T). f a.id) (λ a. eqb a.task t) (activities (numbers s)))
