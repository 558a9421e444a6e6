-- Check 9: `check_constraints` of scheduler/feasibility.rs.
use Rattle.std.specs.Prelude.{ℕ, Bool, false, not, ◌&&◌, ◌||◌, List, [], ◌∷◌, ◌++◌, length, eqb}
use Rattle.loops.specs.Lists.{given, keep, head, option, each}
use Rattle.loops.specs.Range.{collect}
use Rattle.calendar.specs.Clock.{Clock}
use Rattle.findings.specs.declared.Violation.{Violation}
use Rattle.model.specs.Sheet.{Sheet}
use Rattle.model.specs.Constraint.{Constraint, precedence, capacity, time_window, no_overlap, synchronize, constraint_at, members}
use Rattle.model.specs.Schedule.{Assignment, assignments_for_activity_all, time_window_violation, capacity_exceeded, synchronize_violation}
use Rattle.definition.specs.CheckRequirements.{same_time}
use Rattle.definition.specs.ActivitySpan.{activity_span}

module _ {T : Type 0} (K : Clock T) (s : Sheet T) where
  -- the activity's first booking on the resource
  unfoldable pub first_on : ℕ → ℕ → List (Assignment T)
  first_on resource activity =
      option (head (keep (λ a. eqb a.resource resource) (assignments_for_activity_all s activity))) [] (λ a. a ∷ [])

  abbrev pub overlapping : Assignment T → Assignment T → Bool
  overlapping a b = K.before a.start b.end && K.before b.start a.end

  -- each pair of spans that overlaps, the earlier listed with each later one
  unfoldable pub check_overlaps : ℕ → List (Assignment T) → List Violation
  check_overlaps resource [] = []
  check_overlaps resource (a ∷ l) =
      each (λ b. given (overlapping a b) (capacity_exceeded 9 resource)) l ++ check_overlaps resource l

  abbrev pub start_of : ℕ → List T
  start_of activity = option (activity_span K s activity) [] (λ x. x.start ∷ [])

  -- two neighbours differ: `windows(2)`
  unfoldable pub differing : List T → Bool
  differing [] = false
  differing (x ∷ []) = false
  differing (x ∷ y ∷ l) = not (same_time K x y) || differing (y ∷ l)

  -- the constraint at a place
  unfoldable pub check_constraint : ℕ → Constraint T → List Violation
  check_constraint p (precedence a b c) = []
  check_constraint p (capacity r c) = []
  check_constraint p (time_window activity start end) =
      option (activity_span K s activity) []
      λ x. given (K.before x.start start || K.before end x.end) (time_window_violation 9 activity)
  check_constraint p (no_overlap resource) = check_overlaps resource (each (first_on resource) (members s p))
  check_constraint p synchronize =
      let starts : List T = each start_of (members s p) in
      given (eqb (length starts) (length (members s p)) && differing starts) (synchronize_violation 9 p)

  -- its place is the number of constraints above it
  unfoldable pub check_constraint_at : ℕ → List Violation
  check_constraint_at k = each (check_constraint (length (collect (constraint_at s) k))) (constraint_at s k)

  unfoldable pub check_constraints : List Violation
  check_constraints = collect check_constraint_at s.count
