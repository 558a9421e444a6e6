-- Check 4 by rows is check 4. Assumes nothing.
use Prim.Native.Nat.{ℕ, ◌<◌}
use mathlib.Core.Path.{◌≡◌, refl, ap, ap₂, sym, ◌∙◌}
use mathlib.Core.Bool.{Bool, true, false, cond, not, ◌&&◌}
use mathlib.Core.List.{List, [], ◌∷◌, ◌++◌, append-nil, foldl}
use Rattle.std.specs.Prelude.{Option, None, Some}
use lib.Dec.{eqb}
use lib.IntN.{ℤ}
use borrow.Author.Tests.{lt-ltb}
use Rattle.loops.specs.Lists.{given, all_of, each, option, is_empty, among}
use Rattle.loops.specs.Ordered.{values}
use Rattle.loops.specs.Range.{collect}
use Rattle.loops.specs.inner.Chain.{only}
use Rattle.loops.proofs.RangeLaws.{collect_ext}
use Rattle.loops.proofs.NumberLaws.{eqb_swap}
use Rattle.chains.specs.Places.{places}
use Rattle.findings.specs.declared.Violation.{Violation}
use Rattle.findings.specs.inner.Told.{Told, tell, telling}
use Rattle.findings.proofs.Reporting.{tell_only}
use Rattle.calendar.specs.Clock.{clock}
use Rattle.rows.specs.Cells.{row_count, num, is}
use Rattle.sheet.specs.Places.{of_kind, place_of}
use Rattle.sheet.specs.Refusals.{refusal_of}
use Rattle.sheet.specs.inner.Accepted.{Accepted}
use Rattle.owners.specs.inner.Owners.{owner_kind, owned_by}
use Rattle.model.specs.Sheet.{sheet}
use Rattle.model.specs.inner.Records.{activity_of, requirement_of}
use Rattle.model.specs.Resource.{companions}
use Rattle.model.specs.Activity.{requirement_at, requirements}
use Rattle.model.specs.Schedule.{Assignment, requirement_unfilled}
use Rattle.model.proofs.Accepting.{accepted, activity_at_lem}
use Rattle.model.proofs.OwnedLaws.{of_activity}
use Rattle.model.proofs.Tasks.{tasks_by_rows}
use Rattle.model.proofs.Requiring.{requirement_row, requirement_none}
use Rattle.definition.specs.Pieces.{resources_of}
use Rattle.definition.specs.CheckRequirements.{unaccompanied, claims, check_piece_requirements, or_nothing, bookings_by_piece, check_activity_requirements, check_requirements}
use Rattle.check4_pieces.specs.inner.OfPiece.{keys, key_below, key_is, assigns_at, assigns, missing_for, missing, missing_at, free_in, unaccompanied_in}
use Rattle.check4_claims.specs.inner.Claims.{free_at, requirement_rows, runs_on_in, claims_of}
use Rattle.check4_requirements.specs.inner.ByRow.{owns, check_piece, check_keys, check_pieces, check_activity, check_task}
use Rattle.check4_requirements.proofs.Lists.{only_same, both_same, each_only, map_only, any_only, all_only, given_any, given_each, empty_only}
use Rattle.check4_requirements.proofs.Claimants.{along, companions_along, is_of, claims_are}
use Rattle.check4_requirements.proofs.Pieced.{piece_at, assigned, assigned_are, runs_on_lem, apart_is, pieces_are, keys_any, no_piece}

module _ (rows : List ℤ) (acc : Accepted rows) where
  -- ---- a piece

  module _ (o : ℕ) (l : o < row_count rows) (h : is rows o 0 2 ≡ true) where
    assigns_is : (p x : ℕ) → among x (assigned rows acc o l h p) ≡ assigns rows o p x
    unfolding assigns assigns_at is
    assigns_is p x =
        any_only (owned_by rows o 23) (λ k. given (key_is rows p k) (num rows k 3)) (row_count rows) (eqb x)
        ∙ both_same _ _ _ (row_count rows) (λ k m e. given_any (key_is rows p k) (num rows k 3) (eqb x) ∙ ap (λ b. key_is rows p k && b) (eqb_swap x (num rows k 3)))

    -- the companions of a booking's resource that the piece does not have
    missing_is : (p x : ℕ)
        → each (λ c. given (not (among c (assigned rows acc o l h p))) (requirement_unfilled 4 (num rows o 1))) (companions (sheet rows) x)
        ≡ option (place_of rows 11 x) [] (λ r. missing rows o p (num rows o 1) r)
    unfolding missing_for
    missing_is p x =
        ap (each (λ c. given (not (among c (assigned rows acc o l h p))) (requirement_unfilled 4 (num rows o 1)))) (companions_along rows acc x)
        ∙ go (place_of rows 11 x)
      where
        go : (y : Option ℕ)
            → each (λ c. given (not (among c (assigned rows acc o l h p))) (requirement_unfilled 4 (num rows o 1))) (option y [] (λ r. along rows r 13 2))
            ≡ option y [] (λ r. missing rows o p (num rows o 1) r)
        go None = unfold each in refl
        go (Some r) =
            each_only (owned_by rows r 13) (λ j. num rows j 2 ∷ []) (row_count rows) (λ c. given (not (among c (assigned rows acc o l h p))) (requirement_unfilled 4 (num rows o 1)))
            ∙ only_same _ _ _ (row_count rows) (λ j m f. given_each true (num rows j 2) (λ c. given (not (among c (assigned rows acc o l h p))) (requirement_unfilled 4 (num rows o 1)))
            ∙ ap (λ b. given (not b) (requirement_unfilled 4 (num rows o 1))) (assigns_is p (num rows j 2)))

    unaccompanied_is : (p : ℕ) → unaccompanied (sheet rows) (num rows o 1) (resources_of (piece_at rows acc o l h p)) ≡ unaccompanied_in rows o p (num rows o 1)
    unfolding unaccompanied missing_at free_at
    unaccompanied_is p =
        ap₂ (λ a b. each (λ r. each (λ c. given (not (among c a)) (requirement_unfilled 4 (num rows o 1))) (companions (sheet rows) r)) b) (assigned_are rows acc o l h p) (runs_on_lem rows acc o l h p)
        ∙ each_only (owned_by rows o 23) (λ k. given (free_in rows p k) (num rows k 3)) (row_count rows)
        (λ r. each (λ c. given (not (among c (assigned rows acc o l h p))) (requirement_unfilled 4 (num rows o 1))) (companions (sheet rows) r))
        ∙ only_same _ _ _ (row_count rows) (λ k m e. given_each (free_in rows p k) (num rows k 3)
        (λ r. each (λ c. given (not (among c (assigned rows acc o l h p))) (requirement_unfilled 4 (num rows o 1))) (companions (sheet rows) r))
        ∙ ap (λ y. cond (free_in rows p k) y []) (missing_is p (num rows k 3)))

    -- ---- the requirements

    asked_at : (k : ℕ) → requirement_at (sheet rows) (num rows o 1) k ≡ only (owned_by rows o 5) (λ q. requirement_of rows q ∷ []) k
    unfolding only
    asked_at k = go (is rows k 0 5) refl ∙ ap (λ b. cond b (requirement_of rows k ∷ []) []) (sym (of_activity rows 5 o (num rows o 1) (unfold owner_kind in refl) (activity_at_lem rows acc o l h) k))
      where
        pick : (b : Bool) → given b (requirement_of rows k) ≡ cond b (requirement_of rows k ∷ []) []
        pick true = refl
        pick false = refl

        go : (b : Bool) → is rows k 0 5 ≡ b → requirement_at (sheet rows) (num rows o 1) k ≡ cond (is rows k 0 5 && is rows k 1 (num rows o 1)) (requirement_of rows k ∷ []) []
        go true e = requirement_row rows (num rows o 1) k e ∙ pick (is rows k 1 (num rows o 1)) ∙ ap (λ b. cond (b && is rows k 1 (num rows o 1)) (requirement_of rows k ∷ []) []) (sym e)
        go false e = requirement_none rows (num rows o 1) k e ∙ ap (λ b. cond (b && is rows k 1 (num rows o 1)) (requirement_of rows k ∷ []) []) (sym e)

    asked_are : requirements (sheet rows) (num rows o 1) ≡ collect (only (owned_by rows o 5) (λ q. requirement_of rows q ∷ [])) (row_count rows)
    unfolding requirements
    asked_are = collect_ext _ _ (row_count rows) (λ k m. asked_at k)

    all_of_lem : all_of (is_of rows acc (num rows o 1)) (requirement_rows rows o) ≡ true
    all_of_lem = all_only (owned_by rows o 5) (λ q. q ∷ []) (row_count rows) (is_of rows acc (num rows o 1)) at
      where
        at : (q : ℕ) → q < row_count rows → owned_by rows o 5 q ≡ true → all_of (is_of rows acc (num rows o 1)) (q ∷ []) ≡ true
        at q m e = unfold all_of is_of in ap₂ (λ a b. (a && b) && true) (lt-ltb q (row_count rows) m) (sym (of_activity rows 5 o (num rows o 1) (unfold owner_kind in refl) (activity_at_lem rows acc o l h) q) ∙ e)

    claims_is : (m : List ℕ) → claims (sheet rows) (requirements (sheet rows) (num rows o 1)) m ≡ claims_of rows (num rows o 1) (requirement_rows rows o) m
    claims_is m =
        ap (λ y. claims (sheet rows) y m) (asked_are ∙ sym (map_only (owned_by rows o 5) (λ q. q ∷ []) (row_count rows) (requirement_of rows)))
        ∙ claims_are rows acc (num rows o 1) (requirement_rows rows o) m all_of_lem

    piece_is : (p : ℕ) → check_piece_requirements clock (sheet rows) (activity_of rows o) (piece_at rows acc o l h p) ≡ check_piece rows o p
    unfolding check_piece_requirements check_piece
    piece_is p =
        ap₂ ◌++◌
        (ap₂ ◌++◌ (ap (λ b. given b (requirement_unfilled 4 (num rows o 1))) (apart_is rows acc o l h p)) (unaccompanied_is p))
        (ap (claims (sheet rows) (requirements (sheet rows) (num rows o 1))) (runs_on_lem rows acc o l h p) ∙ claims_is (runs_on_in rows o p))

    -- ---- an activity

    or_nothing_lem : (f : List (Assignment ℤ) → List Violation) (m : List (List (Assignment ℤ)))
        → each f (or_nothing clock (sheet rows) m) ≡ cond (is_empty m) (f []) (each f m)
    unfolding each
    or_nothing_lem f [] = append-nil (f [])
    or_nothing_lem f (x ∷ m) = refl

    turned : (b : Bool) (u v : List Violation) → cond (not b) u v ≡ cond b v u
    turned true u v = refl
    turned false u v = refl

    keys_are : each (check_piece_requirements clock (sheet rows) (activity_of rows o)) (collect (only (key_below rows o (row_count rows)) (λ p. piece_at rows acc o l h p ∷ [])) keys) ≡ check_keys rows o
    keys_are =
        each_only (key_below rows o (row_count rows)) (λ p. piece_at rows acc o l h p ∷ []) keys (check_piece_requirements clock (sheet rows) (activity_of rows o))
        ∙ only_same _ _ _ keys (λ p m e. given_each true (piece_at rows acc o l h p) (check_piece_requirements clock (sheet rows) (activity_of rows o)) ∙ piece_is p)

    pieces_is : each (check_piece_requirements clock (sheet rows) (activity_of rows o)) (or_nothing clock (sheet rows) (values (bookings_by_piece clock (sheet rows) (num rows o 1)))) ≡ check_pieces rows o
    unfolding check_pieces
    pieces_is =
        ap (λ y. each (check_piece_requirements clock (sheet rows) (activity_of rows o)) (or_nothing clock (sheet rows) y)) (pieces_are rows acc o l h)
        ∙ or_nothing_lem (check_piece_requirements clock (sheet rows) (activity_of rows o)) (collect (only (key_below rows o (row_count rows)) (λ p. piece_at rows acc o l h p ∷ [])) keys)
        ∙ ap₂ (λ b y. cond b (check_piece_requirements clock (sheet rows) (activity_of rows o) []) y)
        (empty_only (key_below rows o (row_count rows)) (piece_at rows acc o l h) keys ∙ ap not (keys_any rows acc o l h)) keys_are
        ∙ turned (owns rows o 23) (check_piece_requirements clock (sheet rows) (activity_of rows o) []) (check_keys rows o)
        ∙ go (owns rows o 23) refl
      where
        go : (b : Bool) → owns rows o 23 ≡ b → cond (owns rows o 23) (check_keys rows o) (check_piece_requirements clock (sheet rows) (activity_of rows o) []) ≡ cond (owns rows o 23) (check_keys rows o) (check_piece rows o 0)
        go true e = rw e
        go false e = ap (λ y. cond (owns rows o 23) (check_keys rows o) y) (ap (check_piece_requirements clock (sheet rows) (activity_of rows o)) (sym (no_piece rows acc o l h e 0)) ∙ piece_is 0)

    none_asked : is_empty (requirements (sheet rows) (num rows o 1)) ≡ not (owns rows o 5)
    unfolding owns
    none_asked = ap is_empty asked_are ∙ empty_only (owned_by rows o 5) (requirement_of rows) (row_count rows)

    pub activity_is : check_activity_requirements clock (sheet rows) (activity_of rows o) ≡ check_activity rows o
    unfolding check_activity_requirements check_activity
    activity_is =
        ap₂ (λ b y. cond b [] y) none_asked pieces_is
        ∙ turned (owns rows o 5) [] (check_pieces rows o)

  whole : collect (only (of_kind rows 1) (check_task rows)) (row_count rows) ≡ check_requirements clock (sheet rows)
  unfolding check_requirements check_task
  whole = tasks_by_rows rows acc (check_activity_requirements clock (sheet rows)) (check_activity rows) activity_is

-- ---- what is told

pub activities_told : (rows : List ℤ) (o : ℕ) (t : Told) → foldl (telling (check_activity rows)) t (places (owned_by rows o 2) (row_count rows)) ≡ tell t (check_task rows o)
unfolding check_task
activities_told rows o t = tell_only (owned_by rows o 2) (check_activity rows) (row_count rows) t

pub tasks_told : (rows : List ℤ) (t : Told) → refusal_of rows ≡ None → foldl (telling (check_task rows)) t (places (of_kind rows 1) (row_count rows)) ≡ tell t (check_requirements clock (sheet rows))
tasks_told rows t h = tell_only (of_kind rows 1) (check_task rows) (row_count rows) t ∙ ap (tell t) (whole rows (accepted rows h))
