-- What a requirement claims and what a resource lacks, by rows: the lists that the definition reads by id are those along the chains. Assumes nothing.
use Prim.Native.Nat.{ℕ, zero, suc, ◌<◌}
use mathlib.Core.Path.{◌≡◌, refl, ap, ap₂, sym, ◌∙◌}
use mathlib.Core.Bool.{Bool, true, false, cond, not, ◌&&◌, true≢false}
use mathlib.Core.List.{List, [], ◌∷◌, ◌++◌, map}
use Rattle.std.specs.Prelude.{Option, None, Some}
use native.Mathlib.Omega.{arith}
use lib.Dec.{eqb, ltb}
use lib.ListN.{length}
use lib.IntN.{ℤ, pos, negsuc}
use lib.Signed.{lt_z}
use borrow.Author.Tests.{ltb-true, ne_eqb, le-ltb}
use Rattle.loops.specs.Numbers.{to_nat}
use Rattle.loops.specs.Lists.{given, any_of, all_of, among, each, option}
use Rattle.loops.specs.Range.{collect}
use Rattle.loops.specs.Search.{any_below}
use Rattle.loops.specs.inner.Chain.{only}
use Rattle.loops.proofs.BoolLaws.{and_left, and_right}
use Rattle.loops.proofs.RangeLaws.{collect_ext}
use Rattle.loops.proofs.ListLaws.{any_collect, each_ext}
use Rattle.loops.proofs.PlaceLaws.{any_same, place_none}
use Rattle.loops.proofs.NumberLaws.{eqb_swap}
use Rattle.loops.proofs.SearchLaws.{none_below}
use Rattle.rows.specs.Cells.{row_count, cell, num, is}
use Rattle.rows.specs.Table.{class_of}
use Rattle.sheet.specs.Places.{named, place_of}
use Rattle.sheet.specs.Refusals.{is_absent, lacks}
use Rattle.sheet.specs.inner.Accepted.{Accepted}
use Rattle.sheet.proofs.Lookups.{is_num, num_is, Named, placed}
use Rattle.owners.specs.declared.Owner.TheVariants.{ResourceRow}
use Rattle.owners.specs.inner.Owners.{owner_kind, owned_by}
use Rattle.model.specs.Sheet.{sheet, row_at}
use Rattle.model.specs.inner.Records.{num_at, requirement_of, resource_of}
use Rattle.model.specs.Resource.{resource_at, resources, listed, skills, companions}
use Rattle.model.specs.Activity.{named_for, required_skills, is_candidate}
use Rattle.model.specs.Schedule.{skill_mismatch, requirement_unfilled}
use Rattle.model.proofs.RowLaws.{row_none, row_here, resource_row, resource_none}
use Rattle.model.proofs.Accepting.{has_owner, one_row}
use Rattle.model.proofs.OwnedLaws.{of_resource}
use Rattle.model.proofs.Requiring.{wanted_at}
use Rattle.definition.specs.CheckRequirements.{claim, claiming, passing, candidate_id, lacking, claims}
use Rattle.check4_claims.specs.inner.Claims.{has_skill, candidate_of, lacking_for, lacking_of, claim_of, filled, claims_of}
use Rattle.check4_requirements.proofs.Lists.{only_same, both_same, each_only, any_only, none_collect, given_any, given_each, any_at}

-- what a column names along a chain
abbrev pub along : List ℤ → ℕ → ℕ → ℕ → List ℕ
along rows o x c = collect (only (owned_by rows o x) (λ k. num rows k c ∷ [])) (row_count rows)

given_only : (p : ℕ → Bool) (y : ℕ → ℕ) (n : ℕ) → collect (λ k. given (p k) (y k)) n ≡ collect (only p (λ k. y k ∷ [])) n
unfolding only
given_only p y n = collect_ext _ _ n (λ k l. go k (p k))
  where
    go : (k : ℕ) (b : Bool) → given b (y k) ≡ cond b (y k ∷ []) []
    go k true = refl
    go k false = refl

skill_along : (rows : List ℤ) (r v : ℕ) → among v (along rows r 12 2) ≡ has_skill rows r v
unfolding has_skill is
skill_along rows r v =
    any_only (owned_by rows r 12) (λ k. num rows k 2 ∷ []) (row_count rows) (eqb v)
    ∙ both_same _ _ _ (row_count rows) (λ k l e. given_any true (num rows k 2) (eqb v) ∙ eqb_swap v (num rows k 2))

module _ (rows : List ℤ) (acc : Accepted rows) where
  -- ---- rows of a resource

  module _ (x : ℕ) (o : owner_kind x ≡ Some ResourceRow) (cl : (k : ℕ) → lacks (class_of x 1) rows k 1 ≡ is_absent (place_of rows 11 (num rows k 1)))
      (plain : (r k : ℕ) → is rows k 0 x ≡ true → given (eqb (num_at (sheet rows) k 1) r) (num_at (sheet rows) k 2) ≡ given (eqb (num rows k 1) r) (num rows k 2)) where
    -- rows of the kind name a resource of the sheet
    known : (k : ℕ) → k < row_count rows → is rows k 0 x ≡ true → place_of rows 11 (num rows k 1) ≡ None → ⊥
    known k l e q = true≢false (sym (cl k ∙ ap is_absent q) ∙ has_owner rows acc k x 1 l e)

    -- a resource that is not in the sheet is not named
    unnamed : (r k : ℕ) → k < row_count rows → place_of rows 11 r ≡ None → (is rows k 0 x && is rows k 1 r) ≡ false
    unnamed r k l q = go (is rows k 0 x) refl
      where
        go : (b : Bool) → is rows k 0 x ≡ b → (b && is rows k 1 r) ≡ false
        go true e = unfold is in ne_eqb (num rows k 1) r (λ z. known k l e (ap (place_of rows 11) z ∙ q))
        go false e = refl

    listed_along : (r : ℕ) → listed (sheet rows) x r ≡ option (place_of rows 11 r) [] (λ a. along rows a x 2)
    unfolding listed
    listed_along r = collect_ext _ _ (row_count rows) (λ k l. at k (is rows k 0 x) refl) ∙ go (place_of rows 11 r) refl
      where
        go : (y : Option ℕ) → place_of rows 11 r ≡ y
            → collect (λ k. cond (is rows k 0 x && is rows k 1 r) (num rows k 2 ∷ []) []) (row_count rows) ≡ option y [] (λ a. along rows a x 2)
        go None q = none_collect _ (row_count rows) (λ k l. ap (λ b. cond b (num rows k 2 ∷ []) []) (unnamed r k l q))
        go (Some a) q = unfold only in collect_ext _ _ (row_count rows) (λ k l. ap (λ b. cond b (num rows k 2 ∷ []) []) (sym (of_resource rows x a r o q k)))

        pick : (b : Bool) (k : ℕ) → given b (num rows k 2) ≡ cond b (num rows k 2 ∷ []) []
        pick true k = refl
        pick false k = refl

        at : (k : ℕ) (b : Bool) → is rows k 0 x ≡ b
            → row_at (sheet rows) x (λ k. given (eqb (num_at (sheet rows) k 1) r) (num_at (sheet rows) k 2)) k ≡ cond (is rows k 0 x && is rows k 1 r) (num rows k 2 ∷ []) []
        at k true e = unfold is in row_here rows k x (λ k. given (eqb (num_at (sheet rows) k 1) r) (num_at (sheet rows) k 2)) e ∙ plain r k e ∙ pick (is rows k 1 r) k ∙ ap (λ b. cond (b && is rows k 1 r) (num rows k 2 ∷ []) []) (sym e)
        at k false e = row_none rows k x (λ k. given (eqb (num_at (sheet rows) k 1) r) (num_at (sheet rows) k 2)) e ∙ ap (λ b. cond (b && is rows k 1 r) (num rows k 2 ∷ []) []) (sym e)

  has_skill_lem : (r v : ℕ) → among v (skills (sheet rows) r) ≡ option (place_of rows 11 r) false (λ a. has_skill rows a v)
  unfolding lacks
  has_skill_lem r v = ap (among v) (listed_along 12 (unfold owner_kind in refl) (λ k. refl) (λ v k e. rw (is_num rows k 0 12 e)) r) ∙ go (place_of rows 11 r)
    where
      go : (y : Option ℕ) → among v (option y [] (λ a. along rows a 12 2)) ≡ option y false (λ a. has_skill rows a v)
      go None = unfold any_of in refl
      go (Some a) = skill_along rows a v

  pub companions_along : (r : ℕ) → companions (sheet rows) r ≡ option (place_of rows 11 r) [] (λ a. along rows a 13 2)
  unfolding lacks
  companions_along r = listed_along 13 (unfold owner_kind in refl) (λ k. refl) (λ v k e. rw (is_num rows k 0 13 e)) r

  -- ---- one requirement

  module _ (q : ℕ) (l : q < row_count rows) (h : is rows q 0 5 ≡ true) where
    required_along : required_skills (sheet rows) (requirement_of rows q) ≡ along rows q 7 3
    unfolding named_for
    required_along = collect_ext _ _ (row_count rows) (λ k m. wanted_at rows q l h 7 (unfold owner_kind in refl) (λ j e. unfold is in rw (is_num rows j 0 7 e)) k) ∙ given_only (owned_by rows q 7) (λ k. num rows k 3) (row_count rows)

    lacking_along : (r : ℕ) → lacking (sheet rows) (requirement_of rows q) r ≡ lacking_of rows q r
    unfolding lacking lacking_for
    lacking_along r =
        ap (each (λ skill. given (not (among skill (skills (sheet rows) r))) (skill_mismatch 4 r))) required_along
        ∙ each_only (owned_by rows q 7) (λ k. num rows k 3 ∷ []) (row_count rows) (λ skill. given (not (among skill (skills (sheet rows) r))) (skill_mismatch 4 r))
        ∙ only_same _ _ _ (row_count rows) (λ k m e. given_each true (num rows k 3) (λ skill. given (not (among skill (skills (sheet rows) r))) (skill_mismatch 4 r))
        ∙ ap (λ b. given (not b) (skill_mismatch 4 r)) (has_skill_lem r (num rows k 3)))

    -- ---- candidates

    only_one : (x a : ℕ) → Named rows 11 x a → (k : ℕ) → k < row_count rows → named rows 11 x k ≡ true → k ≡ a
    unfolding named
    only_one x a f k m e =
        one_row rows acc k a 11 m f.within refl (and_left (is rows k 0 11) (is rows k 1 x) e) (num_is rows a 0 11 f.kind)
        (is_num rows k 1 x (and_right (is rows k 0 11) (is rows k 1 x) e) ∙ sym f.id_is)

    -- row k is the resource, and a candidate
    chosen : ℕ → ℕ → Bool
    chosen x k = named rows 11 x k && is_candidate (sheet rows) (requirement_of rows q) (resource_of rows k)

    chosen_at : (x k : ℕ) → any_of (λ r. eqb r.id x && is_candidate (sheet rows) (requirement_of rows q) r) (resource_at (sheet rows) k) ≡ chosen x k
    unfolding chosen named any_of
    chosen_at x k = go (is rows k 0 11) refl
      where
        go : (b : Bool) → is rows k 0 11 ≡ b
            → any_of (λ r. eqb r.id x && is_candidate (sheet rows) (requirement_of rows q) r) (resource_at (sheet rows) k)
            ≡ ((is rows k 0 11 && is rows k 1 x) && is_candidate (sheet rows) (requirement_of rows q) (resource_of rows k))
        go true e = ap (any_of (λ r. eqb r.id x && is_candidate (sheet rows) (requirement_of rows q) r)) (resource_row rows k e)
            ∙ given_any true (resource_of rows k) (λ r. eqb r.id x && is_candidate (sheet rows) (requirement_of rows q) r)
            ∙ (unfold is in ap (λ b. (b && eqb (num rows k 1) x) && is_candidate (sheet rows) (requirement_of rows q) (resource_of rows k)) (sym e))
        go false e = ap (any_of (λ r. eqb r.id x && is_candidate (sheet rows) (requirement_of rows q) r)) (resource_none rows k e)
            ∙ ap (λ b. (b && is rows k 1 x) && is_candidate (sheet rows) (requirement_of rows q) (resource_of rows k)) (sym e)

    mine : (x a : ℕ) → Named rows 11 x a → named rows 11 x a ≡ true
    unfolding named
    mine x a f = ap₂ ◌&&◌ (num_is rows a 0 11 f.kind) (num_is rows a 1 x f.id_is)

    other : (x a : ℕ) → Named rows 11 x a → (k : ℕ) → k < row_count rows → (k ≡ a → ⊥) → (b : Bool) → named rows 11 x k ≡ b → chosen x k ≡ false
    unfolding chosen
    other x a f k m d true e = absurd (d (only_one x a f k m e))
    other x a f k m d false e = ap (λ b. b && is_candidate (sheet rows) (requirement_of rows q) (resource_of rows k)) e

    pub candidate_is : (x : ℕ) → candidate_id (sheet rows) (requirement_of rows q) x ≡ candidate_of rows q x
    unfolding candidate_id resources chosen
    candidate_is x =
        any_collect (λ r. eqb r.id x && is_candidate (sheet rows) (requirement_of rows q) r) (resource_at (sheet rows)) (row_count rows)
        ∙ any_same _ _ (row_count rows) (λ k m. chosen_at x k)
        ∙ go (place_of rows 11 x) refl
      where
        go : (y : Option ℕ) → place_of rows 11 x ≡ y
            → any_below (chosen x) (row_count rows)
            ≡ option (place_of rows 11 x) false (λ r. is_candidate (sheet rows) (requirement_of rows q) (resource_of rows r))
        go None e =
            none_below (chosen x) (row_count rows) (λ k m. unfold place_of in ap (λ b. b && is_candidate (sheet rows) (requirement_of rows q) (resource_of rows k)) (place_none (named rows 11 x) (row_count rows) e k m))
            ∙ sym (rw e)
        go (Some a) e =
            let f = placed rows 11 x a e in
            any_at (chosen x) (row_count rows) a f.within (λ k m d. other x a f k m d (named rows 11 x k) refl)
            ∙ ap (λ b. b && is_candidate (sheet rows) (requirement_of rows q) (resource_of rows a)) (mine x a f)
            ∙ sym (rw e)

-- ---- all requirements

claim_ext : (f g : ℕ → Bool) → ((x : ℕ) → f x ≡ g x) → (n : ℕ) (l : List ℕ) → claim f n l ≡ claim g n l
unfolding claim
claim_ext f g h zero l = refl
claim_ext f g h (suc n) [] = refl
claim_ext f g h (suc n) (r ∷ l) =
    ap₂ (λ c d. cond (f r) (claiming r c) (passing r d)) (claim_ext f g h n l) (claim_ext f g h (suc n) l)
    ∙ ap (λ b. cond b (claiming r (claim g n l)) (passing r (claim g (suc n) l))) (h r)

less_is : (a : ℕ) (z : ℤ) → lt_z (pos a) z ≡ ltb a (to_nat z)
less_is a (pos b) = refl
less_is a (negsuc b) = sym (le-ltb a 0 (omega arith))

module _ (rows : List ℤ) (acc : Accepted rows) (activity : ℕ) where
  -- row q is a requirement of the activity
  unfoldable pub is_of : ℕ → Bool
  is_of q = ltb q (row_count rows) && (is rows q 0 5 && is rows q 1 activity)

  same_claim : (q : ℕ) → q < row_count rows → is rows q 0 5 ≡ true → (l : List ℕ)
      → claim (candidate_id (sheet rows) (requirement_of rows q)) (num rows q 3) l ≡ claim_of rows q l
  same_claim q m h l = claim_ext (candidate_id (sheet rows) (requirement_of rows q)) (candidate_of rows q) (candidate_is rows acc q m h) (num rows q 3) l

  pub claims_are : (m l : List ℕ) → all_of is_of m ≡ true → claims (sheet rows) (map (requirement_of rows) m) l ≡ claims_of rows activity m l
  unfolding claims claims_of all_of is_of filled
  claims_are [] l h = refl
  claims_are (q ∷ m) l h =
      let a : (ltb q (row_count rows) && (is rows q 0 5 && is rows q 1 activity)) ≡ true = and_left (ltb q (row_count rows) && (is rows q 0 5 && is rows q 1 activity)) (all_of is_of m) h in
      let b : (is rows q 0 5 && is rows q 1 activity) ≡ true = and_right (ltb q (row_count rows)) (is rows q 0 5 && is rows q 1 activity) a in
      let w : q < row_count rows = ltb-true q (row_count rows) (and_left (ltb q (row_count rows)) (is rows q 0 5 && is rows q 1 activity) a) in
      let k : is rows q 0 5 ≡ true = and_left (is rows q 0 5) (is rows q 1 activity) b in
      let i : num rows q 1 ≡ activity = is_num rows q 1 activity (and_right (is rows q 0 5) (is rows q 1 activity) b) in
      ap₂ ◌++◌
      (ap₂ ◌++◌
      (each_ext (lacking (sheet rows) (requirement_of rows q)) (lacking_of rows q) (lacking_along rows acc q w k) (claim (candidate_id (sheet rows) (requirement_of rows q)) (num rows q 3) l).claimed
      ∙ ap (λ c. each (lacking_of rows q) c.claimed) (same_claim q w k l))
      (ap₂ (λ b e. given b (requirement_unfilled 4 e))
      (less_is (length (claim (candidate_id (sheet rows) (requirement_of rows q)) (num rows q 3) l).claimed) (cell rows q 3) ∙ ap (λ c. ltb (length c.claimed) (num rows q 3)) (same_claim q w k l)) i))
      (claims_are m (claim (candidate_id (sheet rows) (requirement_of rows q)) (num rows q 3) l).unclaimed (and_right (ltb q (row_count rows) && (is rows q 0 5 && is rows q 1 activity)) (all_of is_of m) h)
      ∙ ap (λ c. claims_of rows activity m c.unclaimed) (same_claim q w k l))
