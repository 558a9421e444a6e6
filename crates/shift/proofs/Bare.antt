-- A sheet without bookings, time-only spans and time windows: no finding looks at an instant. Checks 1, 3 and 5 to 9 find nothing, check 2 finds
-- the activities that hold no resource, and check 4 the requirements; both are worked out of the sheet's numbers alone. Assumes nothing.
use Prim.Native.Nat.{ℕ}
use mathlib.Core.Path.{◌≡◌, refl, ◌∙◌, ap, ap₂}
use mathlib.Core.Bool.{Bool, true, false, cond, not, ◌&&◌}
use mathlib.Core.List.{List, [], ◌∷◌, ◌++◌, append-nil}
use Rattle.std.specs.Prelude.{Option, None, Some}
use lib.Dec.{eqb}
use lib.IntN.{ℤ, pos}
use lib.ListN.{length}
use Rattle.loops.specs.Lists.{given, keep, any_of, each, is_empty, option}
use Rattle.loops.specs.Range.{collect}
use Rattle.loops.proofs.PartLaws.{collect_nothing, each_nothing}
use Rattle.calendar.specs.Clock.{Clock}
use Rattle.findings.specs.declared.Violation.{Violation}
use Rattle.model.specs.Sheet.{Sheet, is_kind}
use Rattle.model.specs.Task.{Task, tasks}
use Rattle.model.specs.Activity.{Activity, Split, ResourceRequirement, split, predecessors, activities_of, requirements, requirement_at, named_for, is_candidate}
use Rattle.model.specs.Resource.{resource_at, resources, listed}
use Rattle.model.specs.Constraint.{Constraint, precedence, capacity, time_window, no_overlap, synchronize, constraint_at, constraints, members}
use Rattle.model.specs.Schedule.{assignment_at, assignments_below, assignments, assignments_for_activity_all, span_at, time_only_below, time_only, time_only_for_activity, latest, earliest, task_completion_time, time_window_violation, synchronize_violation}
use Rattle.definition.specs.ActivitySpan.{activity_span}
use Rattle.definition.specs.CheckAssignments.{check_assignment_at, check_assignments}
use Rattle.definition.specs.CheckTimeOnly.{seen, check_span_at, check_unplaced, check_time_only}
use Rattle.definition.specs.CheckParts.{two_works, check_split, check_activity_parts, check_parts}
use Rattle.definition.specs.Pieces.{not_held}
use Rattle.definition.specs.CheckRequirements.{candidate_id, lacking, claims, unaccompanied, not_simultaneous, check_piece_requirements, bookings_by_piece, check_activity_requirements, check_requirements}
use Rattle.load.specs.Load.{booked_at, booked_resources}
use Rattle.definition.specs.CheckCapacity.{check_resource, check_capacity}
use Rattle.definition.specs.CheckCalendars.{check_calendars}
use Rattle.definition.specs.CheckPrecedence.{end_to_start, ordered, check_precedence_constraint, check_pair, check_pairs, check_task, check_precedence}
use Rattle.definition.specs.CheckDeadlines.{check_deadline, check_deadlines}
use Rattle.definition.specs.CheckConstraints.{first_on, start_of, check_overlaps, differing, check_constraint, check_constraint_at, check_constraints}
use Rattle.definition.specs.CheckSchedule.{check_schedule}
use Rattle.shift.proofs.Numbers.{numbers, each_task, each_activity_of}

pub record Bare {T : Type 0} (s : Sheet T) : Type 0 where
  pub bookings : (k : ℕ) → is_kind s 23 k ≡ false
  pub spans : (k : ℕ) → is_kind s 24 k ≡ false

-- ---- what check 2 and check 4 find then

module _ {T : Type 0} (s : Sheet T) where
  -- an activity that holds no resource
  unfoldable pub unplaced : ℕ → List Violation
  unplaced a = given (is_empty (requirements s a) && true) (time_window_violation 2 a)

  -- its requirements, of which nothing is filled
  unfoldable pub unfilled : ℕ → List Violation
  unfilled a = cond (is_empty (requirements s a)) [] (claims s (requirements s a) [] ++ [])

  -- f of each activity of each task
  abbrev pub each_activity : (ℕ → List Violation) → List Violation
  each_activity f = each (λ t. each (λ a. f a.id) (activities_of s t.id)) (tasks s)

  unfoldable pub found : List Violation
  found = each_activity unplaced ++ each_activity unfilled

module _ {T : Type 0} (s : Sheet T) where
  same_requirements : (a : ℕ) → requirements s a ≡ requirements (numbers s) a
  unfolding requirements requirement_at
  same_requirements a = refl

  same_claims : (l : List ResourceRequirement) (m : List ℕ) → claims s l m ≡ claims (numbers s) l m
  unfolding claims candidate_id lacking is_candidate resources resource_at named_for listed
  same_claims l m = refl

  same_unplaced : (a : ℕ) → unplaced s a ≡ unplaced (numbers s) a
  unfolding unplaced
  same_unplaced a = rw (same_requirements a)

  same_unfilled : (a : ℕ) → unfilled s a ≡ unfilled (numbers s) a
  unfolding unfilled
  same_unfilled a = rw (same_requirements a, same_claims (requirements (numbers s) a) [])

  each_same : (f g : ℕ → List Violation) → ((a : ℕ) → f a ≡ g a) → each_activity s f ≡ each_activity (numbers s) g
  each_same f g h =
      ap (each_activity s) (λ i a. h a i)
      ∙ ap (λ (z : ℕ → List Violation). each (λ t. z t.id) (tasks s)) (λ i t. each_activity_of s g t i)
      ∙ each_task s (λ t. each (λ a. g a.id) (activities_of (numbers s) t))

  -- what is found is worked out of the numbers alone
  pub same_found : found s ≡ found (numbers s)
  unfolding found
  same_found = ap₂ ◌++◌ (each_same (unplaced s) (unplaced (numbers s)) same_unplaced) (each_same (unfilled s) (unfilled (numbers s)) same_unfilled)

module _ {T : Type 0} (K : Clock T) (s : Sheet T) (bare : Bare s) where
  pub no_booking : (k : ℕ) → assignment_at s k ≡ []
  unfolding assignment_at
  no_booking k = rw (bare.bookings k)

  no_bookings : assignments s ≡ []
  unfolding assignments assignments_below
  no_bookings = collect_nothing (assignment_at s) no_booking s.count

  none_of : (x : ℕ) → assignments_for_activity_all s x ≡ []
  unfolding assignments_for_activity_all keep
  none_of x = rw no_bookings

  no_span_at : (k : ℕ) → span_at s k ≡ []
  unfolding span_at
  no_span_at k = rw (bare.spans k)

  no_spans : time_only s ≡ []
  unfolding time_only time_only_below
  no_spans = collect_nothing (span_at s) no_span_at s.count

  no_time_only : (x : ℕ) → time_only_for_activity s x ≡ None
  unfolding time_only_for_activity keep
  no_time_only x = rw no_spans

  no_activity_span : (x : ℕ) → activity_span K s x ≡ None
  unfolding activity_span earliest
  no_activity_span x = rw (no_time_only x, none_of x)

  pub no_completion : (t : ℕ) → task_completion_time K s t ≡ None
  unfolding task_completion_time latest each
  no_completion t = rw (no_bookings, no_spans)

  -- ---- the checks that find nothing

  none1 : check_assignments K s ≡ []
  unfolding check_assignments check_assignment_at each
  none1 = collect_nothing (check_assignment_at K s) (λ k. rw (no_booking k)) s.count

  no_split : (a : Activity T) (x : Split) → check_split s a x ≡ []
  unfolding check_split two_works each
  no_split a x = rw (none_of a.id)

  no_parts : (a : Activity T) → check_activity_parts s a ≡ []
  unfolding check_activity_parts
  no_parts a = go (split s a.id)
    where
      go : (x : Option Split) → option x [] (check_split s a) ≡ []
      go None = refl
      go (Some x) = no_split a x

  none3 : check_parts s ≡ []
  unfolding check_parts
  none3 =
      each_nothing (λ t. each (check_activity_parts s) (activities_of s t.id))
      (λ t. each_nothing (check_activity_parts s) no_parts (activities_of s t.id))
      (tasks s)

  none5 : check_capacity K s ≡ []
  unfolding check_capacity booked_resources booked_at each
  none5 = ap (each (check_resource K s)) (collect_nothing (booked_at s) (λ k. rw (no_booking k)) s.count)

  none6 : check_calendars K s ≡ []
  unfolding check_calendars each
  none6 = rw no_bookings

  no_order : (before after : ℕ) (delay : ℤ) → end_to_start K s before after delay ≡ []
  unfolding end_to_start
  no_order before after delay = rw (no_activity_span before)

  no_pair : (x y : Activity T) → check_pair K s x y ≡ []
  unfolding check_pair
  no_pair x y = rw (no_activity_span x.id)

  no_pairs : (l : List (Activity T)) → check_pairs K s l ≡ []
  unfolding check_pairs
  no_pairs [] = refl
  no_pairs (x ∷ []) = refl
  no_pairs (x ∷ y ∷ l) = ap₂ ◌++◌ (no_pair x y) (no_pairs (y ∷ l))

  no_task : (t : Task T) → check_task K s t ≡ []
  unfolding check_task
  no_task t =
      ap₂ ◌++◌ (no_pairs (ordered K s t.id))
      (each_nothing (λ a. each (λ pred. end_to_start K s pred a.id (pos 0)) (predecessors s a.id))
      (λ a. each_nothing (λ pred. end_to_start K s pred a.id (pos 0)) (λ pred. no_order pred a.id (pos 0)) (predecessors s a.id))
      (activities_of s t.id))

  no_delay : (x : Constraint T) → check_precedence_constraint K s x ≡ []
  no_delay (precedence before after delay) = no_order before after delay
  no_delay (capacity r c) = refl
  no_delay (time_window a b c) = refl
  no_delay (no_overlap r) = refl
  no_delay synchronize = refl

  none7 : check_precedence K s ≡ []
  unfolding check_precedence
  none7 =
      ap₂ ◌++◌ (each_nothing (check_task K s) no_task (tasks s))
      (each_nothing (check_precedence_constraint K s) no_delay (constraints s))

  none8 : check_deadlines K s ≡ []
  unfolding check_deadlines check_deadline
  none8 = each_nothing (check_deadline K s) (λ t. rw (no_completion t.id)) (tasks s)

  no_first_on : (resource activity : ℕ) → first_on K s resource activity ≡ []
  unfolding first_on keep
  no_first_on resource activity = rw (none_of activity)

  no_start : (activity : ℕ) → start_of K s activity ≡ []
  no_start activity = rw (no_activity_span activity)

  and_false : (b : Bool) (f : Violation) → given (b && false) f ≡ []
  and_false true f = refl
  and_false false f = refl

  no_constraint : (p : ℕ) (x : Constraint T) → check_constraint K s p x ≡ []
  unfolding check_constraint check_overlaps differing
  no_constraint p (precedence a b c) = refl
  no_constraint p (capacity r c) = refl
  no_constraint p (time_window a start end) = rw (no_activity_span a)
  no_constraint p (no_overlap r) = rw (each_nothing (first_on K s r) (no_first_on r) (members s p))
  no_constraint p synchronize = rw (each_nothing (start_of K s) no_start (members s p)) (and_false (eqb 0 (length (members s p))) (synchronize_violation 9 p))

  none9 : check_constraints K s ≡ []
  unfolding check_constraints check_constraint_at
  none9 =
      collect_nothing (check_constraint_at K s)
      (λ k. each_nothing (check_constraint K s (length (collect (constraint_at s) k))) (no_constraint (length (collect (constraint_at s) k))) (constraint_at s k))
      s.count

  -- ---- checks 2 and 4

  no_span_check : (k : ℕ) → check_span_at K s k ≡ []
  unfolding check_span_at each
  no_span_check k = rw (no_span_at k)

  unseen : (a : ℕ) → seen s (time_only s) a ≡ false
  unfolding seen any_of
  unseen a = rw no_spans

  only2 : check_time_only K s ≡ each_activity s (unplaced s)
  unfolding check_time_only check_unplaced unplaced
  only2 =
      ap₂ ◌++◌ (collect_nothing (check_span_at K s) no_span_check s.count)
      (ap (each_activity s) (λ i a. given (is_empty (requirements s a) && not (unseen a i)) (time_window_violation 2 a)))

  no_pieces : (a : ℕ) → bookings_by_piece K s a ≡ []
  unfolding bookings_by_piece
  no_pieces a = rw (none_of a)

  one_piece : (a : Activity T) → check_activity_requirements K s a ≡ unfilled s a.id
  unfolding check_activity_requirements unfilled check_piece_requirements not_simultaneous unaccompanied not_held each keep
  one_piece a = rw (no_pieces a.id)

  only4 : check_requirements K s ≡ each_activity s (unfilled s)
  unfolding check_requirements
  only4 = ap (λ (z : Activity T → List Violation). each (λ t. each z (activities_of s t.id)) (tasks s)) (λ i a. one_piece a i)

  -- ---- the whole list

  pub only_found : check_schedule K s ≡ found s
  unfolding check_schedule found
  only_found =
      rw (none1, only2, none3, only4, none5, none6, none7, none8, none9)
      (simp append-nil refl)
