-- Check 4: `check_requirements` and `check_piece_requirements` of scheduler/feasibility.rs.
use Rattle.std.specs.Prelude.{ℕ, zero, suc, Bool, false, cond, not, ◌&&◌, ◌||◌, length, eqb, ℤ, pos}
use mathlib.Core.List.{List, [], ◌∷◌, ◌++◌, foldl}
use Rattle.std.specs.Prelude.{Option}
use Rattle.std.specs.Int.Signed.{lt_z}
use Rattle.loops.specs.Numbers.{to_nat}
use Rattle.loops.specs.Lists.{given, any_of, is_empty, each, among}
use Rattle.loops.specs.Ordered.{Entry, upsert, values}
use Rattle.calendar.specs.Clock.{Clock, up_to}
use Rattle.findings.specs.declared.Violation.{Violation}
use Rattle.model.specs.Sheet.{Sheet}
use Rattle.model.specs.Task.{tasks}
use Rattle.model.specs.Resource.{resources, skills, companions}
use Rattle.model.specs.Activity.{Activity, ResourceRequirement, activities_of, requirements, required_skills, is_candidate}
use Rattle.model.specs.Schedule.{Assignment, assignments_for_activity_all, requirement_unfilled, skill_mismatch}
use Rattle.definition.specs.Pieces.{index_of, before_index, resources_of, not_held}

-- what a requirement claims of the resources that are not claimed yet, and what it leaves
pub record Claim : Type 0 where
  pub claimed : List ℕ
  pub unclaimed : List ℕ

abbrev pub claiming : ℕ → Claim → Claim
claiming r c = record { claimed = r ∷ c.claimed; unclaimed = c.unclaimed }

abbrev pub passing : ℕ → Claim → Claim
passing r c = record { claimed = c.claimed; unclaimed = r ∷ c.unclaimed }

-- at most n of those that are candidates, in order
unfoldable pub claim : (ℕ → Bool) → ℕ → List ℕ → Claim
claim candidate zero l = record { claimed = []; unclaimed = l }
claim candidate (suc n) [] = record { claimed = []; unclaimed = [] }
claim candidate (suc n) (r ∷ l) = cond (candidate r) (claiming r (claim candidate n l)) (passing r (claim candidate (suc n) l))

module _ {T : Type 0} (s : Sheet T) where
  -- the id is that of a resource of the sheet that is a candidate
  unfoldable pub candidate_id : ResourceRequirement → ℕ → Bool
  candidate_id q x = any_of (λ r. eqb r.id x && is_candidate s q r) (resources s)

  -- a claimed resource lacks a required skill
  unfoldable pub lacking : ResourceRequirement → ℕ → List Violation
  lacking q r = each (λ skill. given (not (among skill (skills s r))) (skill_mismatch 4 r)) (required_skills s q)

  -- the requirements in order, each of what those before it left
  unfoldable pub claims : List ResourceRequirement → List ℕ → List Violation
  claims [] l = []
  claims (q ∷ m) l =
      let c : Claim = claim (candidate_id q) (to_nat q.quantity) l in
      each (lacking q) c.claimed
      ++ given (lt_z (pos (length c.claimed)) q.quantity) (requirement_unfilled 4 q.activity)
      ++ claims m c.unclaimed

  -- a companion that is not there
  unfoldable pub unaccompanied : ℕ → List ℕ → List Violation
  unaccompanied activity assigned =
      each (λ r. each (λ c. given (not (among c assigned)) (requirement_unfilled 4 activity)) (companions s r)) (not_held s assigned)

module _ {T : Type 0} (K : Clock T) where
  abbrev pub same_time : T → T → Bool
  same_time a b = up_to K a b && up_to K b a

module _ {T : Type 0} (K : Clock T) (s : Sheet T) where
  -- some booking differs from the first in its start or its end
  unfoldable pub not_simultaneous : List (Assignment T) → Bool
  not_simultaneous [] = false
  not_simultaneous (first ∷ l) =
      any_of (λ a. not (same_time K a.start first.start) || not (same_time K a.end first.end)) (first ∷ l)

  unfoldable pub check_piece_requirements : Activity T → List (Assignment T) → List Violation
  check_piece_requirements a assigns =
      given (not_simultaneous assigns) (requirement_unfilled 4 a.id)
      ++ unaccompanied s a.id (resources_of assigns)
      ++ claims s (requirements s a.id) (not_held s (resources_of assigns))

module _ {T : Type 0} (K : Clock T) (s : Sheet T) where
  -- the bookings of each piece, in the order of the part indices
  unfoldable pub bookings_by_piece : ℕ → List (Entry (Option ℤ) (List (Assignment T)))
  bookings_by_piece activity =
      foldl (λ m a. upsert before_index (index_of a.part) [] (λ l. l ++ a ∷ []) m) [] (assignments_for_activity_all s activity)

  -- a piece of no booking, where there is none
  abbrev pub or_nothing : List (List (Assignment T)) → List (List (Assignment T))
  or_nothing [] = [] ∷ []
  or_nothing (x ∷ l) = x ∷ l

  unfoldable pub check_activity_requirements : Activity T → List Violation
  check_activity_requirements a =
      cond (is_empty (requirements s a.id)) []
      (each (check_piece_requirements K s a) (or_nothing (values (bookings_by_piece a.id))))

  unfoldable pub check_requirements : List Violation
  check_requirements = each (λ t. each check_activity_requirements (activities_of s t.id)) (tasks s)
