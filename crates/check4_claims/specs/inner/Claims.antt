-- What the requirements of an activity claim of a piece, by rows: o is the row of an activity, q of a requirement, r of a resource; x is the id of
-- a resource, p the key of a part index. Assumes nothing.
use Rattle.std.specs.Prelude.{ℕ, Bool, false, not, ◌&&◌, List, [], ◌∷◌, ◌++◌, length, get_or, ltb, ℤ}
use Rattle.loops.specs.Lists.{given, option, each}
use Rattle.loops.specs.Range.{collect}
use Rattle.loops.specs.Search.{any_below}
use Rattle.loops.specs.inner.Chain.{only}
use Rattle.findings.specs.declared.Violation.{Violation}
use Rattle.rows.specs.Cells.{row_count, num, is}
use Rattle.sheet.specs.Places.{resource_place}
use Rattle.owners.specs.inner.Owners.{owned_by}
use Rattle.model.specs.Sheet.{sheet}
use Rattle.model.specs.Activity.{is_candidate}
use Rattle.model.specs.Schedule.{requirement_unfilled, skill_mismatch}
use Rattle.model.specs.inner.Records.{requirement_of, resource_of}
use Rattle.definition.specs.CheckRequirements.{Claim, claim}
use Rattle.check4_pieces.specs.inner.OfPiece.{both, free_in}

module _ (rows : List ℤ) where
  abbrev pub candidate_of : ℕ → ℕ → Bool
  candidate_of q x = option (resource_place rows x) false (λ r. is_candidate (sheet rows) (requirement_of rows q) (resource_of rows r))

  unfoldable pub has_skill : ℕ → ℕ → Bool
  has_skill r v = any_below (both (owned_by rows r 12) (λ k. is rows k 2 v)) (row_count rows)

  unfoldable pub lacking_for : ℕ → ℕ → List Violation
  lacking_for x k = given (not (option (resource_place rows x) false (λ r. has_skill r (num rows k 3)))) (skill_mismatch 4 x)

  abbrev pub lacking_of : ℕ → ℕ → List Violation
  lacking_of q x = collect (only (owned_by rows q 7) (lacking_for x)) (row_count rows)

  abbrev pub claim_of : ℕ → List ℕ → Claim
  claim_of q l = claim (candidate_of q) (num rows q 3) l

  unfoldable pub filled : ℕ → ℕ → List ℕ → List Violation
  filled activity q l =
      each (lacking_of q) (claim_of q l).claimed
      ++ given (ltb (length (claim_of q l).claimed) (num rows q 3)) (requirement_unfilled 4 activity)

  -- the requirements in order, each of what those before it left
  unfoldable pub claims_of : ℕ → List ℕ → List ℕ → List Violation
  claims_of activity [] l = []
  claims_of activity (q ∷ m) l = filled activity q l ++ claims_of activity m (claim_of q l).unclaimed

  -- the resource of a booking that is marked
  unfoldable pub marked_at : List Bool → ℕ → List ℕ
  marked_at free k = given (get_or free k false) (num rows k 3)

  abbrev pub unclaimed_of : ℕ → List Bool → List ℕ
  unclaimed_of o free = collect (only (owned_by rows o 23) (marked_at free)) (row_count rows)

  -- booking k is marked, and its resource a candidate of the requirement
  unfoldable pub claimable : ℕ → List Bool → ℕ → Bool
  claimable q free k = get_or free k false && candidate_of q (num rows k 3)

  -- the requirement, which has claimed so many units, claims it
  unfoldable pub takes : ℕ → List Bool → ℕ → ℕ → Bool
  takes q free units k = ltb units (num rows q 3) && claimable q free k

  -- the requirements of the activity
  abbrev pub requirement_rows : ℕ → List ℕ
  requirement_rows o = collect (only (owned_by rows o 5) (λ q. q ∷ [])) (row_count rows)

  -- the resource of a booking that may be claimed
  unfoldable pub free_at : ℕ → ℕ → List ℕ
  free_at p k = given (free_in rows p k) (num rows k 3)

  abbrev pub runs_on_in : ℕ → ℕ → List ℕ
  runs_on_in o p = collect (only (owned_by rows o 23) (free_at p)) (row_count rows)
