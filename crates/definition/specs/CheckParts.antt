-- Check 3: `check_parts` of scheduler/feasibility.rs.
use Rattle.std.specs.Prelude.{ℕ, ◌+◌, Bool, false, cond, not, ◌&&◌, ◌||◌, length, eqb, ltb, ℤ, pos}
use mathlib.Core.List.{List, [], ◌∷◌, ◌++◌, foldl}
use Rattle.std.specs.Prelude.{Option, None, Some}
use Rattle.std.specs.Int.Signed.{lt_z}
use Rattle.loops.specs.Lists.{given, keep, any_of, head, option, is_some, is_empty, each}
use Rattle.loops.specs.Ordered.{Entry, upsert, values}
use Rattle.findings.specs.declared.Violation.{Violation}
use Rattle.model.specs.Sheet.{Sheet}
use Rattle.model.specs.Task.{tasks}
use Rattle.model.specs.Activity.{Activity, Split, split, activities_of}
use Rattle.model.specs.Schedule.{Part, assignments_for_activity_all, unknown_activity, duration_too_short}

-- `parts`: the work of each index, the last where it was given more than once, in the order of the indices
unfoldable pub parts_of : List Part → List (Entry ℤ ℕ)
parts_of l = foldl (λ m p. upsert lt_z p.index p.work (λ w. p.work) m) [] l

-- the work of the index after the parts l
unfoldable pub work_of : List Part → ℤ → Option ℕ
work_of l i = option (head (keep (λ e. not (lt_z e.key i) && not (lt_z i e.key)) (parts_of l))) None (λ e. Some e.value)

-- a part whose index has been given another work before, among the parts l
unfoldable pub two_works : ℕ → List Part → List Part → List Violation
two_works activity l [] = []
two_works activity l (p ∷ m) =
    given (option (work_of l p.index) false (λ w. not (eqb w p.work))) (unknown_activity 3 activity)
    ++ two_works activity (l ++ p ∷ []) m

-- the parts of an activity that has some. In the Rust `max_parts as usize` of a negative number is more than any count, and then every index is outside.
unfoldable pub check_parts_of : ℕ → ℕ → Split → Bool → List (Entry ℤ ℕ) → List Violation
check_parts_of activity process x whole parts =
    given whole (unknown_activity 3 activity)
    ++ given
    (lt_z x.max_parts (pos (length parts)) || any_of (λ e. lt_z e.key (pos 0) || not (lt_z e.key x.max_parts)) parts)
    (unknown_activity 3 activity)
    ++ given (ltb (foldl ◌+◌ 0 (values parts)) process) (duration_too_short 3 activity)
    ++ given (ltb process (foldl ◌+◌ 0 (values parts))) (unknown_activity 3 activity)
    ++ cond (ltb 1 (length parts)) (each (λ w. given (ltb w x.min_part) (duration_too_short 3 activity)) (values parts)) []

module _ {T : Type 0} (s : Sheet T) where
  abbrev pub parts_booked : ℕ → List Part
  parts_booked activity = each (λ a. option a.part [] (λ p. p ∷ [])) (assignments_for_activity_all s activity)

  abbrev pub whole_booked : ℕ → Bool
  whole_booked activity = any_of (λ a. not (is_some a.part)) (assignments_for_activity_all s activity)

  unfoldable pub check_split : Activity T → Split → List Violation
  check_split a x =
      two_works a.id [] (parts_booked a.id)
      ++ cond (is_empty (parts_booked a.id)) []
      (check_parts_of a.id a.duration.process_ms x (whole_booked a.id) (parts_of (parts_booked a.id)))

  unfoldable pub check_activity_parts : Activity T → List Violation
  check_activity_parts a = option (split s a.id) [] (check_split a)

  unfoldable pub check_parts : List Violation
  check_parts = each (λ t. each check_activity_parts (activities_of s t.id)) (tasks s)
