-- Of all that the check finds, the findings that bear a check's number are that check's. Assumes nothing.
use Prim.Native.Nat.{ℕ}
use mathlib.Core.Path.{◌≡◌, refl, ap, ◌∙◌}
use mathlib.Core.Bool.{false}
use mathlib.Core.List.{List, [], ◌++◌, append-nil}
use lib.Dec.{eqb}
use borrow.Author.Tests.{eqb-true}
use Rattle.loops.specs.Lists.{keep}
use Rattle.loops.proofs.ListLaws.{keep_append}
use Rattle.loops.proofs.PartLaws.{keep_all, keep_other}
use Rattle.calendar.specs.Clock.{Clock}
use Rattle.findings.specs.declared.Violation.{Violation}
use Rattle.model.specs.Sheet.{Sheet}
use Rattle.definition.specs.CheckAssignments.{check_assignments}
use Rattle.definition.specs.CheckTimeOnly.{check_time_only}
use Rattle.definition.specs.CheckParts.{check_parts}
use Rattle.definition.specs.CheckRequirements.{check_requirements}
use Rattle.definition.specs.CheckCapacity.{check_capacity}
use Rattle.definition.specs.CheckCalendars.{check_calendars}
use Rattle.definition.specs.CheckPrecedence.{check_precedence}
use Rattle.definition.specs.CheckDeadlines.{check_deadlines}
use Rattle.definition.specs.CheckConstraints.{check_constraints}
use Rattle.definition.specs.CheckSchedule.{check_schedule}
use Rattle.finding_numbers.proofs.Numbers.{is_of, Of, of_assignments, of_time_only, of_parts, of_requirements, of_capacity, of_calendars, of_precedence, of_deadlines, of_constraints}

module _ (n : ℕ) where
  -- findings of another check k are not kept
  none_of : (k : ℕ) (l : List Violation) → eqb k n ≡ false → Of k l → keep (is_of n) l ≡ []
  none_of k l d h = keep_other (is_of n) (is_of k) (λ f e. ap (λ m. eqb m n) (eqb-true f.check k e) ∙ d) l h.all

  -- behind a list of which nothing is kept; and behind any other
  none_yet : (k : ℕ) (l m : List Violation) → eqb k n ≡ false → keep (is_of n) l ≡ [] → Of k m → keep (is_of n) (l ++ m) ≡ []
  none_yet k l m d e h = keep_append (is_of n) l m ∙ ap (λ x. x ++ keep (is_of n) m) e ∙ none_of k m d h

  none_more : (k : ℕ) (l m : List Violation) → eqb k n ≡ false → Of k m → keep (is_of n) (l ++ m) ≡ keep (is_of n) l
  none_more k l m d h = keep_append (is_of n) l m ∙ ap (λ x. keep (is_of n) l ++ x) (none_of k m d h) ∙ append-nil (keep (is_of n) l)

  -- its own are
  own : (l m : List Violation) → keep (is_of n) l ≡ [] → Of n m → keep (is_of n) (l ++ m) ≡ m
  own l m e h = keep_append (is_of n) l m ∙ ap (λ x. x ++ keep (is_of n) m) e ∙ keep_all (is_of n) m h.all

module _ {T : Type 0} (K : Clock T) (s : Sheet T) where
  -- checks 1 to 4
  none_before : (n : ℕ) → eqb 1 n ≡ false → eqb 2 n ≡ false → eqb 3 n ≡ false → eqb 4 n ≡ false
      → keep (is_of n) (check_assignments K s ++ check_time_only K s ++ check_parts s ++ check_requirements K s) ≡ []
  none_before n a b c d =
      none_yet n 4 _ (check_requirements K s) d
      (none_yet n 3 _ (check_parts s) c
      (none_yet n 2 (check_assignments K s) (check_time_only K s) b (none_of n 1 (check_assignments K s) a (of_assignments K s)) (of_time_only K s)) (of_parts K s))
      (of_requirements K s)

  pub capacity_listed : keep (is_of 5) (check_schedule K s) ≡ check_capacity K s
  unfolding check_schedule
  capacity_listed =
      none_more 5 9 _ (check_constraints K s) refl (of_constraints K s)
      ∙ none_more 5 8 _ (check_deadlines K s) refl (of_deadlines K s)
      ∙ none_more 5 7 _ (check_precedence K s) refl (of_precedence K s)
      ∙ none_more 5 6 _ (check_calendars K s) refl (of_calendars K s)
      ∙ own 5 _ (check_capacity K s) (none_before 5 refl refl refl refl) (of_capacity K s)

  pub deadlines_listed : keep (is_of 8) (check_schedule K s) ≡ check_deadlines K s
  unfolding check_schedule
  deadlines_listed =
      none_more 8 9 _ (check_constraints K s) refl (of_constraints K s)
      ∙ own 8 _ (check_deadlines K s)
      (none_yet 8 7 _ (check_precedence K s) refl
      (none_yet 8 6 _ (check_calendars K s) refl
      (none_yet 8 5 _ (check_capacity K s) refl (none_before 8 refl refl refl refl) (of_capacity K s)) (of_calendars K s)) (of_precedence K s))
      (of_deadlines K s)
