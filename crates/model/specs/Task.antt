-- models/task.rs.
use Rattle.std.specs.Prelude.{ℕ, List, [], ◌∷◌, eqb}
use Rattle.std.specs.Prelude.{Option, None, Some}
use Rattle.loops.specs.Lists.{head, keep}
use Rattle.loops.specs.Numbers.{to_nat}
use Rattle.loops.specs.Range.{collect}
use Rattle.calendar.specs.Clock.{Clock}
use Rattle.model.specs.Sheet.{Sheet, as_num, as_instant, row_at, columns3}

pub record Task (T : Type 0) : Type 0 where
  pub id : ℕ
  pub deadline : Option T
  pub release : Option T

module _ {T : Type 0} (s : Sheet T) where
  unfoldable pub task_at : ℕ → List (Task T)
  task_at = row_at s 1 λ k. columns3 s k λ id deadline release.
      record { id = as_num id; deadline = as_instant deadline; release = as_instant release } ∷ []

  unfoldable pub tasks : List (Task T)
  tasks = collect task_at s.count

  unfoldable pub find_task : ℕ → Option (Task T)
  find_task x = head (keep (λ t. eqb t.id x) tasks)

module _ {T : Type 0} (K : Clock T) where
  -- `tardiness_ms`: how late the completion is, never below 0; 0 without a deadline
  abbrev pub tardiness_ms : T → Option T → ℕ
  tardiness_ms completion None = 0
  tardiness_ms completion (Some deadline) = to_nat (K.minus completion deadline)
