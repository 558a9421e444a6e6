-- models/schedule.rs: bookings, time-only spans, and the violations that the checks report.
use Rattle.std.specs.Prelude.{ℕ, cond, eqb, ℤ}
use mathlib.Core.List.{List, ◌++◌, foldl}
use Rattle.std.specs.Prelude.{Option, None, Some}
use Rattle.loops.specs.Numbers.{to_nat}
use Rattle.loops.specs.Lists.{given, head, keep, each}
use Rattle.loops.specs.Range.{collect}
use Rattle.calendar.specs.Clock.{Clock}
use Rattle.findings.specs.declared.Violation.{Violation}
use Rattle.findings.specs.declared.ViolationKind.TheVariants.{DeadlineMiss, CapacityExceeded, PrecedenceViolation, ResourceUnavailable, SkillMismatch, RequirementUnfilled, TimeWindowViolation, SynchronizeViolation, UnknownActivity, DurationTooShort, EarlyStart}
use Rattle.findings.specs.Kinds.{violation_of}
use Rattle.model.specs.Sheet.{Cell, number, instant, nothing, Sheet, as_num, as_instant, with2, row_at, columns4, columns8}

-- which part of a split activity, and how much of its processing it does
pub record Part : Type 0 where
  pub index : ℤ
  pub work : ℕ

-- a booking
pub record Assignment (T : Type 0) : Type 0 where
  pub activity : ℕ
  pub task : ℕ
  pub resource : ℕ
  pub start : T
  pub end : T
  pub setup : ℕ
  pub part : Option Part

pub record TimeOnlySpan (T : Type 0) : Type 0 where
  pub activity : ℕ
  pub task : ℕ
  pub start : T
  pub end : T

-- part index and part work: both or neither in an accepted sheet
abbrev pub as_part : {T : Type 0} → Cell T → Cell T → Option Part
as_part (number i) (number w) = Some (record { index = i; work = to_nat w })
as_part (number i) (instant w) = None
as_part (number i) nothing = None
as_part (instant i) w = None
as_part nothing w = None

module _ {T : Type 0} (s : Sheet T) where
  unfoldable pub assignment_at : ℕ → List (Assignment T)
  assignment_at = row_at s 23 λ k. columns8 s k λ activity task resource start end setup part_index part_work.
      with2 (as_instant start) (as_instant end) λ a e.
      record {
        activity = as_num activity;
        task = as_num task;
        resource = as_num resource;
        start = a;
        end = e;
        setup = as_num setup;
        part = as_part part_index part_work;
      }

  -- those of the first n rows, and all
  unfoldable pub assignments_below : ℕ → List (Assignment T)
  assignments_below n = collect assignment_at n

  unfoldable pub assignments : List (Assignment T)
  assignments = assignments_below s.count

  unfoldable pub assignments_for_activity_all : ℕ → List (Assignment T)
  assignments_for_activity_all x = keep (λ a. eqb a.activity x) assignments

  unfoldable pub span_at : ℕ → List (TimeOnlySpan T)
  span_at = row_at s 24 λ k. columns4 s k λ activity task start end.
      with2 (as_instant start) (as_instant end) λ a e. record { activity = as_num activity; task = as_num task; start = a; end = e }

  unfoldable pub time_only_below : ℕ → List (TimeOnlySpan T)
  time_only_below n = collect span_at n

  unfoldable pub time_only : List (TimeOnlySpan T)
  time_only = time_only_below s.count

  unfoldable pub time_only_for_activity : ℕ → Option (TimeOnlySpan T)
  time_only_for_activity x = head (keep (λ a. eqb a.activity x) time_only)

module _ {T : Type 0} (K : Clock T) where
  abbrev pub later_of : Option T → T → Option T
  later_of None x = Some x
  later_of (Some a) x = Some (cond (K.before a x) x a)

  abbrev pub earlier_of : Option T → T → Option T
  earlier_of None x = Some x
  earlier_of (Some a) x = Some (cond (K.before x a) x a)

  -- `max` and `min` of some instants
  unfoldable pub latest : List T → Option T
  latest l = foldl later_of None l

  unfoldable pub earliest : List T → Option T
  earliest l = foldl earlier_of None l

module _ {T : Type 0} (K : Clock T) (s : Sheet T) where
  unfoldable pub task_completion_time : ℕ → Option T
  task_completion_time t =
      latest K
      (each (λ a. given (eqb a.task t) a.end) (assignments s)
      ++ each (λ x. given (eqb x.task t) x.end) (time_only s))

-- ---- violations

-- `Violation::deadline_miss` .. `Violation::synchronize`: what a check reports of an entity, with the type's number and severity by findings/Kinds. (`time_window`
-- and `synchronize` have the longer names of their types, since a constraint has the short ones.) The entity of a synchronize violation is its constraint's place.
module _ (check : ℕ) (entity : ℕ) where
  abbrev pub deadline_miss : Violation
  deadline_miss = violation_of check DeadlineMiss entity

  abbrev pub capacity_exceeded : Violation
  capacity_exceeded = violation_of check CapacityExceeded entity

  abbrev pub precedence_violation : Violation
  precedence_violation = violation_of check PrecedenceViolation entity

  abbrev pub resource_unavailable : Violation
  resource_unavailable = violation_of check ResourceUnavailable entity

  abbrev pub skill_mismatch : Violation
  skill_mismatch = violation_of check SkillMismatch entity

  abbrev pub requirement_unfilled : Violation
  requirement_unfilled = violation_of check RequirementUnfilled entity

  abbrev pub time_window_violation : Violation
  time_window_violation = violation_of check TimeWindowViolation entity

  abbrev pub synchronize_violation : Violation
  synchronize_violation = violation_of check SynchronizeViolation entity

  abbrev pub unknown_activity : Violation
  unknown_activity = violation_of check UnknownActivity entity

  abbrev pub duration_too_short : Violation
  duration_too_short = violation_of check DurationTooShort entity

  abbrev pub early_start : Violation
  early_start = violation_of check EarlyStart entity
