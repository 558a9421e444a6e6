-- Each check's findings bear its number. Assumes nothing.
use Prim.Native.Nat.{ℕ}
use mathlib.Core.Path.{◌≡◌, refl}
use mathlib.Core.Bool.{Bool, true, false, cond}
use mathlib.Core.List.{List, [], ◌∷◌, ◌++◌}
use Rattle.std.specs.Prelude.{Option, None, Some}
use lib.Dec.{eqb}
use lib.IntN.{ℤ}
use Rattle.loops.specs.Lists.{given, all_of, each, option}
use Rattle.loops.specs.Range.{collect}
use Rattle.loops.proofs.PartLaws.{all_both, all_each, all_collect}
use Rattle.calendar.specs.Clock.{Clock}
use Rattle.findings.specs.declared.Violation.{Violation}
use Rattle.model.specs.Sheet.{Sheet}
use Rattle.model.specs.Activity.{Activity, ResourceRequirement}
use Rattle.model.specs.Constraint.{Constraint, precedence, capacity, time_window, no_overlap, synchronize}
use Rattle.model.specs.Schedule.{Part, Assignment, TimeOnlySpan}
use Rattle.definition.specs.CheckAssignments.{early_assignment, check_known, check_assignment, check_assignment_at, check_assignments}
use Rattle.definition.specs.CheckTimeOnly.{early_span, check_first, check_span, check_span_at, check_unplaced, check_time_only}
use Rattle.definition.specs.CheckParts.{two_works, check_parts_of, check_split, check_activity_parts, check_parts}
use Rattle.definition.specs.CheckRequirements.{lacking, claims, unaccompanied, check_piece_requirements, check_activity_requirements, check_requirements}
use Rattle.definition.specs.CheckCapacity.{check_resource, check_capacity}
use Rattle.definition.specs.CheckCalendars.{check_resumable, check_plain, check_booking, check_calendars}
use Rattle.definition.specs.CheckPrecedence.{end_to_start, check_pair, check_pairs, check_task, check_precedence_constraint, check_precedence}
use Rattle.definition.specs.CheckDeadlines.{check_deadline, check_deadlines}
use Rattle.definition.specs.CheckConstraints.{check_overlaps, check_constraint, check_constraint_at, check_constraints}

-- a finding of check n
abbrev pub is_of : ℕ → Violation → Bool
is_of n f = eqb f.check n

-- all of them are
pub record Of (n : ℕ) (l : List Violation) : Type 0 where
  pub all : all_of (is_of n) l ≡ true

of_none : (n : ℕ) → Of n []
unfolding all_of
of_none n = record { all = refl }

of_one : (n : ℕ) (f : Violation) → is_of n f ≡ true → Of n (f ∷ [])
unfolding all_of
of_one n f h = record { all = rw h }

of_given : (n : ℕ) (b : Bool) (f : Violation) → is_of n f ≡ true → Of n (given b f)
of_given n true f h = of_one n f h
of_given n false f h = of_none n

of_cond : (n : ℕ) (b : Bool) (l m : List Violation) → Of n l → Of n m → Of n (cond b l m)
of_cond n true l m h k = h
of_cond n false l m h k = k

of_option : {X : Type 0} (n : ℕ) (o : Option X) (l : List Violation) (f : X → List Violation) → Of n l → ((x : X) → Of n (f x)) → Of n (option o l f)
of_option n None l f h k = h
of_option n (Some x) l f h k = k x

of_two : (n : ℕ) (l m : List Violation) → Of n l → Of n m → Of n (l ++ m)
of_two n l m h k = record { all = all_both (is_of n) l m h.all k.all }

of_each : {X : Type 0} (n : ℕ) (f : X → List Violation) (l : List X) → ((x : X) → Of n (f x)) → Of n (each f l)
of_each n f l h = record { all = all_each (is_of n) f (λ x. (h x).all) l }

of_collect : (n : ℕ) (f : ℕ → List Violation) (m : ℕ) → ((k : ℕ) → Of n (f k)) → Of n (collect f m)
of_collect n f m h = record { all = all_collect (is_of n) f (λ k. (h k).all) m }

ruleset parts = (of_none, of_one, of_given, of_cond, of_option, of_two, of_each, of_collect)

module _ {T : Type 0} (K : Clock T) (s : Sheet T) where
  -- ---- 1

  of_early : (a : Assignment T) (o : Option T) → Of 1 (early_assignment K s a o)
  of_early a None = of_none 1
  of_early a (Some release) = search parts

  of_known : (earlier : List (Assignment T)) (a : Assignment T) (x : Activity T) → Of 1 (check_known K s earlier a x)
  unfolding check_known
  of_known earlier a x = search (parts, of_early) depth 8

  pub of_assignments : Of 1 (check_assignments K s)
  unfolding check_assignments check_assignment_at check_assignment
  of_assignments = search (parts, of_known) depth 8

  -- ---- 2

  of_early_span : (x : TimeOnlySpan T) (o : Option T) → Of 2 (early_span K s x o)
  of_early_span x None = of_none 2
  of_early_span x (Some release) = search parts

  of_first : (x : TimeOnlySpan T) (a : Activity T) → Of 2 (check_first K s x a)
  unfolding check_first
  of_first x a = search (parts, of_early_span) depth 8

  pub of_time_only : Of 2 (check_time_only K s)
  unfolding check_time_only check_span_at check_span check_unplaced
  of_time_only = search (parts, of_first) depth 8

  -- ---- 3

  of_works : (a : ℕ) (l m : List Part) → Of 3 (two_works a l m)
  unfolding two_works
  of_works a l [] = of_none 3
  of_works a l (p ∷ m) = let rest = of_works a (l ++ p ∷ []) m in search parts

  pub of_parts : Of 3 (check_parts s)
  unfolding check_parts check_activity_parts check_split check_parts_of
  of_parts = search (parts, of_works) depth 14

  -- ---- 4

  of_claims : (m : List ResourceRequirement) (l : List ℕ) → Of 4 (claims s m l)
  unfolding claims lacking
  of_claims [] l = of_none 4
  of_claims (q ∷ m) l = let rest : (l : List ℕ) → Of 4 (claims s m l) = of_claims m in search parts

  pub of_requirements : Of 4 (check_requirements K s)
  unfolding check_requirements check_activity_requirements check_piece_requirements unaccompanied
  of_requirements = search (parts, of_claims) depth 14

  -- ---- 5

  pub of_capacity : Of 5 (check_capacity K s)
  unfolding check_capacity check_resource
  of_capacity = search parts

  -- ---- 6

  pub of_calendars : Of 6 (check_calendars K s)
  unfolding check_calendars check_booking check_resumable check_plain
  of_calendars = search parts depth 10

  -- ---- 7

  of_end_to_start : (a b : ℕ) (delay : ℤ) → Of 7 (end_to_start K s a b delay)
  unfolding end_to_start
  of_end_to_start a b delay = search parts

  of_pair : (a b : Activity T) → Of 7 (check_pair K s a b)
  unfolding check_pair
  of_pair a b = search parts depth 8

  of_pairs : (l : List (Activity T)) → Of 7 (check_pairs K s l)
  unfolding check_pairs
  of_pairs [] = of_none 7
  of_pairs (x ∷ []) = of_none 7
  of_pairs (x ∷ y ∷ l) = of_two 7 (check_pair K s x y) (check_pairs K s (y ∷ l)) (of_pair x y) (of_pairs (y ∷ l))

  of_constraint_7 : (c : Constraint T) → Of 7 (check_precedence_constraint K s c)
  of_constraint_7 (precedence a b delay) = of_end_to_start a b delay
  of_constraint_7 (capacity r c) = of_none 7
  of_constraint_7 (time_window a b c) = of_none 7
  of_constraint_7 (no_overlap r) = of_none 7
  of_constraint_7 synchronize = of_none 7

  pub of_precedence : Of 7 (check_precedence K s)
  unfolding check_precedence check_task
  of_precedence = search (parts, of_pairs, of_end_to_start, of_constraint_7) depth 8

  -- ---- 8

  pub of_deadlines : Of 8 (check_deadlines K s)
  unfolding check_deadlines check_deadline
  of_deadlines = search parts

  -- ---- 9

  of_overlaps : (r : ℕ) (l : List (Assignment T)) → Of 9 (check_overlaps K s r l)
  unfolding check_overlaps
  of_overlaps r [] = of_none 9
  of_overlaps r (a ∷ l) = let rest = of_overlaps r l in search parts

  of_constraint_9 : (p : ℕ) (c : Constraint T) → Of 9 (check_constraint K s p c)
  unfolding check_constraint
  of_constraint_9 p (precedence a b c) = of_none 9
  of_constraint_9 p (capacity r c) = of_none 9
  of_constraint_9 p (time_window a b c) = search parts
  of_constraint_9 p (no_overlap r) = search of_overlaps
  of_constraint_9 p synchronize = search parts

  pub of_constraints : Of 9 (check_constraints K s)
  unfolding check_constraints check_constraint_at
  of_constraints = search (parts, of_constraint_9)
