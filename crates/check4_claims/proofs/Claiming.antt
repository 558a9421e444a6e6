-- What a requirement claims of the bookings from one on: marks in place of a list that gets shorter. Assumes nothing.
use Prim.Native.Nat.{ℕ, zero, suc, ◌+◌, ◌-◌, ◌<◌, ◌≤◌}
use mathlib.Core.Path.{◌≡◌, refl, ap, ap₂, sym, ◌∙◌}
use mathlib.Core.Bool.{Bool, true, false, cond, ◌&&◌}
use mathlib.Core.List.{List, [], ◌∷◌, ◌++◌, append_assoc, foldl}
use Rattle.std.specs.Prelude.{⊤}
use native.Mathlib.Omega.{arith}
use native.Mathlib.Decide.{dec_lt}
use lib.ListN.{length, get_or, set, replicate, length-set, length-replicate}
use lib.Seq.{get_or-set_same, get_or-set_other}
use lib.Dec.{ltb}
use lib.IntN.{ℤ}
use borrow.Author.Tests.{lt-ltb, le-ltb}
use Rattle.loops.specs.Lists.{given, each}
use Rattle.loops.specs.inner.Chain.{First, only}
use Rattle.loops.proofs.RangeLaws.{collect_ext}
use Rattle.chains.specs.Places.{places}
use Rattle.chains.specs.inner.Left.{Left, front}
use Rattle.chains.proofs.PlaceLaws.{left_all, each_only}
use Rattle.findings.specs.declared.Violation.{Violation}
use Rattle.findings.specs.inner.Told.{Told, tell}
use Rattle.findings.proofs.Reporting.{tell_append}
use Rattle.rows.specs.Cells.{row_count, num}
use Rattle.owners.specs.inner.Owners.{owned_by}
use Rattle.model.specs.Schedule.{requirement_unfilled}
use Rattle.definition.specs.CheckRequirements.{Claim, claim, claiming, passing}
use Rattle.check4_pieces.specs.inner.OfPiece.{free_in}
use Rattle.check4_claims.specs.inner.Claims.{candidate_of, lacking_of, claim_of, filled, marked_at, unclaimed_of, claimable, takes, requirement_rows, free_at, runs_on_in}

-- ---- the marks of the bookings from one on

-- each place of the list is behind k
Behind : ℕ → List ℕ → Type 0
Behind k [] = ⊤
Behind k (j ∷ l) = (k < j) × Behind k l

behind : (p : ℕ → Bool) (n : ℕ) (l : List ℕ) (k i : ℕ) → k ≤ i → First p (suc i) n (front n l) → Left p n l → Behind k l
unfolding Behind
behind p n [] k i e f h = tt
behind p n (j ∷ l) k i e f h = (omega (arith, f.low), behind p n l k j (omega (arith, f.low)) h.2 h.3)

module _ (rows : List ℤ) where
  each_kept : (free : List Bool) (k : ℕ) (v : Bool) (l : List ℕ) → Behind k l → each (marked_at rows (set free k v)) l ≡ each (marked_at rows free) l
  unfolding each marked_at Behind
  each_kept free k v [] h = refl
  each_kept free k v (j ∷ l) h =
      ap₂ ◌++◌ (ap (λ x. given x (num rows j 3)) (get_or-set_other free k j v false (λ e. omega (arith, h.0)))) (each_kept free k v l h.1)

  -- ---- those that may be claimed

  -- booking k, marked where it may be claimed
  abbrev pub mark_free : ℕ → List Bool → ℕ → List Bool
  mark_free p free k = set free k (free_in rows p k)

  free_kept : (p k : ℕ) (l : List ℕ) (free : List Bool) → Behind k l → get_or (foldl (mark_free p) free l) k false ≡ get_or free k false
  unfolding Behind
  free_kept p k [] free h = refl
  free_kept p k (j ∷ l) free h = free_kept p k l (mark_free p free j) h.1 ∙ get_or-set_other free j k (free_in rows p j) false (λ e. omega (arith, h.0))

  free_from : (q : ℕ → Bool) (n p : ℕ) → n ≤ 800 → (l : List ℕ) → Left q n l → (free : List Bool) → length free ≡ 800 → each (marked_at rows (foldl (mark_free p) free l)) l ≡ each (free_at rows p) l
  unfolding each marked_at free_at
  free_from q n p s [] h free z = refl
  free_from q n p s (k ∷ l) h free z =
      ap₂ ◌++◌
      (ap (λ x. given x (num rows k 3)) (free_kept p k l (mark_free p free k) (behind q n l k k (omega arith) h.2 h.3) ∙ get_or-set_same free k (free_in rows p k) false (omega (arith, h.0))))
      (free_from q n p s l h.3 (mark_free p free k) (length-set free k (free_in rows p k) ∙ z))

  pub free_all : (o p : ℕ) → row_count rows ≤ 800
      → unclaimed_of rows o (foldl (mark_free p) (replicate 800 false) (places (owned_by rows o 23) (row_count rows))) ≡ runs_on_in rows o p
  free_all o p s =
      sym (each_only (owned_by rows o 23) (marked_at rows (foldl (mark_free p) (replicate 800 false) (places (owned_by rows o 23) (row_count rows)))) (row_count rows))
      ∙ free_from (owned_by rows o 23) (row_count rows) p s (places (owned_by rows o 23) (row_count rows)) (left_all (owned_by rows o 23) (row_count rows)) (replicate 800 false) (length-replicate {A = Bool} 800 false)
      ∙ each_only (owned_by rows o 23) (free_at rows p) (row_count rows)

-- ---- a claim, resource by resource

-- a claim of a list in two parts
abbrev joined : Claim → Claim → Claim
joined a b = record { claimed = a.claimed ++ b.claimed; unclaimed = a.unclaimed ++ b.unclaimed }

-- a resource that is passed over, where it is free
abbrev passed : Bool → ℕ → Claim → Claim
passed b x c = record { claimed = c.claimed; unclaimed = given b x ++ c.unclaimed }

module _ (f : ℕ → Bool) where
  claim_nil : (n : ℕ) → claim f n [] ≡ record { claimed = []; unclaimed = [] }
  unfolding claim
  claim_nil zero = refl
  claim_nil (suc n) = refl

  claim_append : (n : ℕ) (l m : List ℕ) → claim f n (l ++ m) ≡ joined (claim f n l) (claim f (n - length (claim f n l).claimed) m)
  unfolding claim
  claim_append zero l m = refl
  claim_append (suc n) [] m = let e : suc n - 0 ≡ suc n = omega arith in ap (λ d. joined (claim f (suc n) []) (claim f d m)) (sym e)
  claim_append (suc n) (r ∷ l) m = go (f r) (claim_append n l m) (claim_append (suc n) l m)
    where
      go : (b : Bool) → claim f n (l ++ m) ≡ joined (claim f n l) (claim f (n - length (claim f n l).claimed) m)
          → claim f (suc n) (l ++ m) ≡ joined (claim f (suc n) l) (claim f (suc n - length (claim f (suc n) l).claimed) m)
          → cond b (claiming r (claim f n (l ++ m))) (passing r (claim f (suc n) (l ++ m)))
          ≡ joined (cond b (claiming r (claim f n l)) (passing r (claim f (suc n) l)))
          (claim f (suc n - length (cond b (claiming r (claim f n l)) (passing r (claim f (suc n) l))).claimed) m)
      go true p q =
          let e : suc n - suc (length (claim f n l).claimed) ≡ n - length (claim f n l).claimed = omega arith in
          rw e (ap (claiming r) p)
      go false p q = ap (passing r) q

  claim_next : (d : ℕ) (b : Bool) (x : ℕ) (m : List ℕ)
      → claim f d (given b x ++ m) ≡ cond (ltb 0 d && (b && f x)) (claiming x (claim f (d - 1) m)) (passed b x (claim f d m))
  unfolding claim
  claim_next zero b x m = refl
  claim_next (suc d) false x m = rw (lt-ltb 0 (suc d) (omega arith)) refl
  claim_next (suc d) true x m = let e : suc d - 1 ≡ d = omega arith in rw (lt-ltb 0 (suc d) (omega arith), e) refl

above : (q u : ℕ) → ltb 0 (q - u) ≡ ltb u q
above q u = go (dec_lt u q)
  where
    go : Dec (u < q) → ltb 0 (q - u) ≡ ltb u q
    go (yes h) = rw (lt-ltb 0 (q - u) (omega arith), lt-ltb u q h)
    go (no h) = rw (le-ltb 0 (q - u) (omega arith), le-ltb u q (omega arith))

-- ---- what the requirement at row q claims of the bookings from one on

module _ (rows : List ℤ) (q : ℕ) where
  -- the marks and the units that booking k leaves
  abbrev pub marks_after : List Bool → ℕ → ℕ → List Bool
  marks_after free units k = cond (takes rows q free units k) (set free k false) free

  abbrev pub units_after : List Bool → ℕ → ℕ → ℕ
  units_after free units k = units + cond (takes rows q free units k) 1 0

  -- the marks that all of them leave
  unfoldable pub marks_from : List Bool → ℕ → List ℕ → List Bool
  marks_from free units [] = free
  marks_from free units (k ∷ l) = marks_from (marks_after free units k) (units_after free units k) l

  -- what is told of them, and of the requirement
  unfoldable pub told_from : ℕ → List Bool → ℕ → List ℕ → List Violation
  told_from activity free units [] = given (ltb units (num rows q 3)) (requirement_unfilled 4 activity)
  told_from activity free units (k ∷ l) =
      cond (takes rows q free units k) (lacking_of rows q (num rows k 3)) [] ++ told_from activity (marks_after free units k) (units_after free units k) l

  abbrev claim_from : List Bool → ℕ → List ℕ → Claim
  claim_from free units l = claim (candidate_of rows q) (num rows q 3 - units) (each (marked_at rows free) l)

  claim_turn : (free : List Bool) (units k : ℕ) (l : List ℕ) → Behind k l
      → claim_from free units (k ∷ l)
      ≡ cond (takes rows q free units k) (claiming (num rows k 3) (claim_from (marks_after free units k) (units_after free units k) l))
      (passed (get_or free k false) (num rows k 3) (claim_from (marks_after free units k) (units_after free units k) l))
  unfolding each marked_at takes claimable
  claim_turn free units k l h =
      claim_next (candidate_of rows q) (num rows q 3 - units) (get_or free k false) (num rows k 3) (each (marked_at rows free) l)
      ∙ ap (λ b. cond (b && (get_or free k false && candidate_of rows q (num rows k 3)))
      (claiming (num rows k 3) (claim (candidate_of rows q) (num rows q 3 - units - 1) (each (marked_at rows free) l)))
      (passed (get_or free k false) (num rows k 3) (claim_from free units l))) (above (num rows q 3) units)
      ∙ go (ltb units (num rows q 3) && (get_or free k false && candidate_of rows q (num rows k 3)))
    where
      go : (b : Bool) → cond b (claiming (num rows k 3) (claim (candidate_of rows q) (num rows q 3 - units - 1) (each (marked_at rows free) l)))
          (passed (get_or free k false) (num rows k 3) (claim_from free units l))
          ≡ cond b (claiming (num rows k 3) (claim_from (cond b (set free k false) free) (units + cond b 1 0) l))
          (passed (get_or free k false) (num rows k 3) (claim_from (cond b (set free k false) free) (units + cond b 1 0) l))
      go true =
          let e : num rows q 3 - units - 1 ≡ num rows q 3 - (units + 1) = omega arith in
          ap₂ (λ d m. claiming (num rows k 3) (claim (candidate_of rows q) d m)) e (sym (each_kept rows free k false l h))
      go false = let e : units + 0 ≡ units = omega arith in rw e

  told_is : (p : ℕ → Bool) (n activity : ℕ) (l : List ℕ) → Left p n l → (free : List Bool) (units : ℕ)
      → told_from activity free units l
      ≡ each (lacking_of rows q) (claim_from free units l).claimed
      ++ given (ltb (units + length (claim_from free units l).claimed) (num rows q 3)) (requirement_unfilled 4 activity)
  unfolding told_from each
  told_is p n activity [] h free units =
      rw (claim_nil (candidate_of rows q) (num rows q 3 - units)) (let e : units + 0 ≡ units = omega arith in rw e)
  told_is p n activity (k ∷ l) h free units =
      ap (λ t. cond (takes rows q free units k) (lacking_of rows q (num rows k 3)) [] ++ t) (told_is p n activity l h.3 (marks_after free units k) (units_after free units k))
      ∙ go (takes rows q free units k) (claim_from (marks_after free units k) (units_after free units k) l)
      ∙ ap (λ c. each (lacking_of rows q) c.claimed ++ given (ltb (units + length c.claimed) (num rows q 3)) (requirement_unfilled 4 activity))
      (sym (claim_turn free units k l (behind p n l k k (omega arith) h.2 h.3)))
    where
      go : (b : Bool) (c : Claim)
          → cond b (lacking_of rows q (num rows k 3)) [] ++ (each (lacking_of rows q) c.claimed ++ given (ltb ((units + cond b 1 0) + length c.claimed) (num rows q 3)) (requirement_unfilled 4 activity))
          ≡ (let d = cond b (claiming (num rows k 3) c) (passed (get_or free k false) (num rows k 3) c) in
          each (lacking_of rows q) d.claimed ++ given (ltb (units + length d.claimed) (num rows q 3)) (requirement_unfilled 4 activity))
      go true c = let e : (units + 1) + length c.claimed ≡ units + suc (length c.claimed) = omega arith in
          rw e (sym (append_assoc (lacking_of rows q (num rows k 3)) (each (lacking_of rows q) c.claimed) _))
      go false c = let e : (units + 0) + length c.claimed ≡ units + length c.claimed = omega arith in rw e

  -- the bookings behind do not touch the mark
  marks_kept : (k : ℕ) (l : List ℕ) (free : List Bool) (units : ℕ) → Behind k l → get_or (marks_from free units l) k false ≡ get_or free k false
  unfolding Behind marks_from
  marks_kept k [] free units h = refl
  marks_kept k (j ∷ l) free units h = marks_kept k l (marks_after free units j) (units_after free units j) h.1 ∙ go (takes rows q free units j)
    where
      go : (b : Bool) → get_or (cond b (set free j false) free) k false ≡ get_or free k false
      go true = get_or-set_other free j k false false (λ e. omega (arith, h.0))
      go false = refl

  left_is : (p : ℕ → Bool) (n : ℕ) → n ≤ 800 → (l : List ℕ) → Left p n l → (free : List Bool) (units : ℕ) → length free ≡ 800
      → each (marked_at rows (marks_from free units l)) l ≡ (claim_from free units l).unclaimed
  unfolding marks_from each marked_at
  left_is p n s [] h free units z = rw (claim_nil (candidate_of rows q) (num rows q 3 - units))
  left_is p n s (k ∷ l) h free units z =
      ap₂ (λ x m. given x (num rows k 3) ++ m)
      (marks_kept k l (marks_after free units k) (units_after free units k) (behind p n l k k (omega arith) h.2 h.3))
      (left_is p n s l h.3 (marks_after free units k) (units_after free units k) (size (takes rows q free units k)))
      ∙ go (takes rows q free units k) (claim_from (marks_after free units k) (units_after free units k) l)
      ∙ ap (λ c. c.unclaimed) (sym (claim_turn free units k l (behind p n l k k (omega arith) h.2 h.3)))
    where
      size : (b : Bool) → length (cond b (set free k false) free) ≡ 800
      size true = length-set free k false ∙ z
      size false = z

      go : (b : Bool) (c : Claim) → given (get_or (cond b (set free k false) free) k false) (num rows k 3) ++ c.unclaimed
          ≡ (cond b (claiming (num rows k 3) c) (passed (get_or free k false) (num rows k 3) c)).unclaimed
      go true c = rw (get_or-set_same free k false false (omega (arith, h.0)))
      go false c = refl

  module _ (o : ℕ) (free : List Bool) where
    claim_all : claim_from free 0 (places (owned_by rows o 23) (row_count rows)) ≡ claim_of rows q (unclaimed_of rows o free)
    claim_all =
        let e : num rows q 3 - 0 ≡ num rows q 3 = omega arith in
        ap₂ (λ d l. claim (candidate_of rows q) d l) e (each_only (owned_by rows o 23) (marked_at rows free) (row_count rows))

    pub fill_left : length free ≡ 800 → row_count rows ≤ 800
        → unclaimed_of rows o (marks_from free 0 (places (owned_by rows o 23) (row_count rows))) ≡ (claim_of rows q (unclaimed_of rows o free)).unclaimed
    fill_left z s =
        sym (each_only (owned_by rows o 23) (marked_at rows (marks_from free 0 (places (owned_by rows o 23) (row_count rows)))) (row_count rows))
        ∙ left_is (owned_by rows o 23) (row_count rows) s (places (owned_by rows o 23) (row_count rows)) (left_all (owned_by rows o 23) (row_count rows)) free 0 z
        ∙ ap (λ c. c.unclaimed) claim_all

    pub fill_told : (t : Told) (activity : ℕ)
        → tell t (told_from activity free 0 (places (owned_by rows o 23) (row_count rows))) ≡ tell t (filled rows activity q (unclaimed_of rows o free))
    unfolding filled
    fill_told t activity =
        ap (tell t) (told_is (owned_by rows o 23) (row_count rows) activity (places (owned_by rows o 23) (row_count rows)) (left_all (owned_by rows o 23) (row_count rows)) free 0
        ∙ ap₂ (λ c d. each (lacking_of rows q) c.claimed ++ given (ltb d (num rows q 3)) (requirement_unfilled 4 activity)) claim_all
        (let e : 0 + length (claim_from free 0 (places (owned_by rows o 23) (row_count rows))).claimed ≡ length (claim_from free 0 (places (owned_by rows o 23) (row_count rows))).claimed = omega arith in
        e ∙ ap (λ c. length c.claimed) claim_all))

-- ---- the requirements

-- what is told of one step, and then of those that are left
pub tell_turn : (t : Told) {t' u : Told} (a b : List Violation) → t' ≡ tell t a → tell t (a ++ b) ≡ u → tell t' b ≡ u
tell_turn t a b e h = ap (λ x. tell x b) e ∙ tell_append t a b ∙ h

pub asked : (rows : List ℤ) (o : ℕ) → places (owned_by rows o 5) (row_count rows) ≡ requirement_rows rows o
unfolding places only
asked rows o = collect_ext _ _ (row_count rows) (λ k l. go k (owned_by rows o 5 k))
  where
    go : (k : ℕ) (b : Bool) → given b k ≡ cond b (k ∷ []) []
    go k true = refl
    go k false = refl
