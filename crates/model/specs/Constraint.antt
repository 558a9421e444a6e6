-- models/constraint.rs. The members of a constraint stand in rows of their own, by its place among the constraints.
use Rattle.std.specs.Prelude.{ℕ, List, [], ◌∷◌, ◌++◌, ℤ}
use Rattle.loops.specs.Range.{collect}
use Rattle.model.specs.Sheet.{Sheet, as_num, as_int, as_instant, with2, row_at, columns1, columns2, columns3}
use Rattle.model.specs.Resource.{listed}

pub data Constraint (T : Type 0) : Type 0 where
  -- before, after, min_delay_ms
  precedence : ℕ → ℕ → ℤ → Constraint T
  -- resource, max_capacity
  capacity : ℕ → ℤ → Constraint T
  -- activity, start, end
  time_window : ℕ → T → T → Constraint T
  -- resource
  no_overlap : ℕ → Constraint T
  synchronize : Constraint T

module _ {T : Type 0} (s : Sheet T) where
  unfoldable pub constraint_at : ℕ → List (Constraint T)
  constraint_at k =
      row_at s 17 (λ j. columns3 s j λ before after delay. precedence (as_num before) (as_num after) (as_int delay) ∷ []) k
      ++ row_at s 18 (λ j. columns2 s j λ resource max. capacity (as_num resource) (as_int max) ∷ []) k
      ++ row_at s 19 (λ j. columns3 s j λ activity start end. with2 (as_instant start) (as_instant end) (time_window (as_num activity))) k
      ++ row_at s 20 (λ j. columns1 s j λ resource. no_overlap (as_num resource) ∷ []) k
      ++ row_at s 21 (λ j. synchronize ∷ []) k

  unfoldable pub constraints : List (Constraint T)
  constraints = collect constraint_at s.count

  -- `activity_ids` of the constraint at a place
  abbrev pub members : ℕ → List ℕ
  members p = listed s 22 p
