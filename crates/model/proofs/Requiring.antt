-- Requirements and their candidates by rows: the rows that belong to a requirement are those that name its activity and its place. Assumes nothing.
use Prim.Native.Nat.{ℕ, zero, suc, ◌+◌, ◌<◌}
use mathlib.Core.Path.{◌≡◌, refl, ap, ap₂, sym, ◌∙◌}
use mathlib.Core.Bool.{Bool, true, false, cond, not, ◌&&◌, ◌||◌, true≢false, or-false}
use mathlib.Core.List.{List, [], ◌∷◌, ◌++◌}
use Rattle.std.specs.Prelude.{Option, None, Some}
use mathlib.Core.Logic.{⊎_elim}
use native.Mathlib.Omega.{arith}
use native.Mathlib.Decide.{ℕ_discrete, dec_lt}
use native.Mathlib.Nat.{eq-or-lt_of_le, le_of_suc-le-suc, not-suc-le-zero}
use borrow.Author.Tests.{eqb-true, eq-eqb, ne_eqb}
use lib.Dec.{eqb}
use lib.IntN.{ℤ}
use Rattle.loops.specs.Lists.{given, any_of, count_of, among, is_empty}
use Rattle.loops.specs.Range.{collect}
use Rattle.loops.specs.Search.{any_below, count_below}
use Rattle.loops.proofs.BoolLaws.{and_left, and_right}
use Rattle.loops.proofs.ListLaws.{count_append, any_collect}
use Rattle.loops.proofs.RangeLaws.{collect_ext}
use Rattle.loops.proofs.PlaceLaws.{place_only, any_same}
use Rattle.loops.proofs.NumberLaws.{eqb_swap}
use Rattle.rows.specs.Cells.{row_count, cell, num, is}
use Rattle.sheet.specs.Places.{place_of, named, is_nth, nth_place, requirement_place}
use Rattle.sheet.specs.inner.Index.{or_end}
use Rattle.sheet.proofs.Lookups.{is_num, nth_at}
use Rattle.owners.specs.declared.Owner.TheVariants.{RequirementRow}
use Rattle.owners.specs.inner.Owners.{owner_kind, owner_of, owner_place, own_place, owned_by}
use Rattle.model.specs.Sheet.{sheet, row_at}
use Rattle.model.specs.inner.Records.{num_at, requirement_of}
use Rattle.model.specs.Activity.{ResourceRequirement, requirement_at, named_for, candidates}
use Rattle.model.proofs.RowLaws.{row_here, row_none}
use Rattle.model.proofs.OwnedLaws.{of_activity}

-- ---- number m of the places that pass

module _ (p : ℕ → Bool) where
  pub count_less : (j k : ℕ) → j < k → p j ≡ true → count_below p j < count_below p k
  unfolding count_below
  count_less j zero l e = absurd (not-suc-le-zero l)
  count_less j (suc k) l e =
      ⊎_elim
      (λ q. let h : p k ≡ true = ap p (sym q) ∙ e in rw (q, h) (omega arith))
      (λ m. let h = count_less j k m e in omega arith)
      (eq-or-lt_of_le (le_of_suc-le-suc l))

  -- two that have the same number are one
  same_number : (j k : ℕ) → p j ≡ true → p k ≡ true → count_below p j ≡ count_below p k → j ≡ k
  same_number j k a b e = go (dec_lt j k) (dec_lt k j)
    where
      go : Dec (j < k) → Dec (k < j) → j ≡ k
      go (yes l) y = let h = count_less j k l a in absurd (omega arith)
      go (no l) (yes m) = let h = count_less k j m b in absurd (omega arith)
      go (no l) (no m) = omega arith

  pub nth_is : (n k m : ℕ) → k < n → p k ≡ true → count_below p k ≡ m → nth_place p m n ≡ Some k
  unfolding nth_place is_nth
  nth_is n k m l e c =
      place_only (is_nth p m) n k l (rw (e, c) (eq-eqb m m refl))
      (λ j h q. same_number j k (and_left (p j) (eqb (count_below p j) m) q) e
      (eqb-true (count_below p j) m (and_right (p j) (eqb (count_below p j) m) q) ∙ sym c))

module _ (rows : List ℤ) where
  -- ---- requirements

  one_more_lem : (a k : ℕ) → count_of (eqb a) (row_at (sheet rows) 5 (λ j. num_at (sheet rows) j 1 ∷ []) k) ≡ cond (named rows 5 a k) 1 0
  unfolding count_of named is
  one_more_lem a k = go (is rows k 0 5) refl
    where
      go : (b : Bool) → is rows k 0 5 ≡ b
          → count_of (eqb a) (row_at (sheet rows) 5 (λ j. num_at (sheet rows) j 1 ∷ []) k) ≡ cond (is rows k 0 5 && is rows k 1 a) 1 0
      go true h = rw (is_num rows k 0 5 h, eqb_swap a (num rows k 1)) (units (eqb (num rows k 1) a))
        where
          units : (b : Bool) → cond b 1 0 + 0 ≡ cond b 1 0
          units true = refl
          units false = refl
      go false h = rw h

  counted : (a n : ℕ) → count_of (eqb a) (collect (row_at (sheet rows) 5 (λ j. num_at (sheet rows) j 1 ∷ [])) n) ≡ count_below (named rows 5 a) n
  unfolding collect count_below
  counted a zero = unfold count_of in refl
  counted a (suc n) =
      count_append (eqb a) (collect (row_at (sheet rows) 5 (λ j. num_at (sheet rows) j 1 ∷ [])) n) (row_at (sheet rows) 5 (λ j. num_at (sheet rows) j 1 ∷ []) n)
      ∙ ap₂ ◌+◌ (counted a n) (one_more_lem a n)

  abbrev with_place : ℕ → ℕ → ℕ → ResourceRequirement
  with_place k b p = record { activity = b; type = num rows k 2; quantity = cell rows k 3; usage = num rows k 4; place = p }

  pub requirement_row : (a k : ℕ) → is rows k 0 5 ≡ true → requirement_at (sheet rows) a k ≡ given (is rows k 1 a) (requirement_of rows k)
  unfolding requirement_at is
  requirement_row a k h = rw (is_num rows k 0 5 h) (go (ℕ_discrete (num rows k 1) a))
    where
      go : Dec (num rows k 1 ≡ a)
          → given (eqb (num rows k 1) a)
          (record {
            activity = a;
            type = num rows k 2;
            quantity = cell rows k 3;
            usage = num rows k 4;
            place = count_of (eqb a) (collect (row_at (sheet rows) 5 (λ j. num_at (sheet rows) j 1 ∷ [])) k);
          })
          ≡ given (eqb (num rows k 1) a) (requirement_of rows k)
      go (yes e) =
          ap (λ b. given (eqb (num rows k 1) a) (with_place k b (count_of (eqb b) (collect (row_at (sheet rows) 5 (λ j. num_at (sheet rows) j 1 ∷ [])) k)))) (sym e)
          ∙ ap (λ p. given (eqb (num rows k 1) a) (with_place k (num rows k 1) p)) (counted (num rows k 1) k)
      go (no e) = rw (ne_eqb (num rows k 1) a e)

  pub requirement_none : (a k : ℕ) → is rows k 0 5 ≡ false → requirement_at (sheet rows) a k ≡ []
  unfolding requirement_at is
  requirement_none a k h = rw h

  -- the requirements of the activity of row a
  pub requirement_by : (a : ℕ) → place_of rows 2 (num rows a 1) ≡ Some a → (k : ℕ)
      → requirement_at (sheet rows) (num rows a 1) k ≡ given (owned_by rows a 5 k) (requirement_of rows k)
  requirement_by a q k = rw (of_activity rows 5 a (num rows a 1) (unfold owner_kind in refl) q k) (go (is rows k 0 5) refl)
    where
      go : (b : Bool) → is rows k 0 5 ≡ b
          → requirement_at (sheet rows) (num rows a 1) k ≡ given (is rows k 0 5 && is rows k 1 (num rows a 1)) (requirement_of rows k)
      go true h = rw (h, requirement_row (num rows a 1) k h)
      go false h = rw (h, requirement_none (num rows a 1) k h)

  -- ---- what belongs to a requirement: candidates 6, wanted skills 7

  same_requirement : (q i m : ℕ) → q < row_count rows → is rows q 0 5 ≡ true
      → eqb (or_end rows (requirement_place rows i m)) q ≡ (eqb i (num rows q 1) && eqb m (requirement_of rows q).place)
  same_requirement q i m l h = go (ℕ_discrete i (num rows q 1)) (ℕ_discrete m (requirement_of rows q).place)
    where
      own : named rows 5 (num rows q 1) q ≡ true
      own = unfold named is in rw (h, eq-eqb (num rows q 1) (num rows q 1) refl)

      -- a place that is found has the number
      apart : (x : Option ℕ) → requirement_place rows i m ≡ x → ((i ≡ num rows q 1) × (m ≡ (requirement_of rows q).place) → ⊥) → eqb (or_end rows x) q ≡ false
      apart None e d = unfold or_end in ne_eqb (row_count rows) q (λ z. omega arith)
      apart (Some j) e d =
          unfold or_end named in
          ne_eqb j q
          (λ z.
          let f = nth_at (named rows 5 i) m (row_count rows) j e in
          let g : num rows j 1 ≡ i = is_num rows j 1 i (and_right (is rows j 0 5) (is rows j 1 i) f.1) in
          let w : i ≡ num rows q 1 = sym g ∙ ap (λ t. num rows t 1) z in
          d (w, sym f.2 ∙ ap₂ (λ t u. count_below (named rows 5 t) u) w z))

      go : Dec (i ≡ num rows q 1) → Dec (m ≡ (requirement_of rows q).place)
          → eqb (or_end rows (requirement_place rows i m)) q ≡ (eqb i (num rows q 1) && eqb m (requirement_of rows q).place)
      go (yes a) (yes b) =
          rw (eq-eqb i (num rows q 1) a, eq-eqb m (requirement_of rows q).place b)
          (ap (λ x. eqb (or_end rows x) q) (ap₂ (λ t u. requirement_place rows t u) a b ∙ nth_is (named rows 5 (num rows q 1)) (row_count rows) q _ l own refl)
          ∙ (unfold or_end in eq-eqb q q refl))
      go (yes a) (no b) = apart (requirement_place rows i m) refl (λ z. b z.1) ∙ sym (rw (eq-eqb i (num rows q 1) a) (ne_eqb m (requirement_of rows q).place b))
      go (no a) y = apart (requirement_place rows i m) refl (λ z. a z.0) ∙ sym (rw (ne_eqb i (num rows q 1) a))

  pub of_requirement : (x q : ℕ) → owner_kind x ≡ Some RequirementRow → q < row_count rows → is rows q 0 5 ≡ true → (k : ℕ)
      → owned_by rows q x k ≡ (is rows k 0 x && (is rows k 1 (num rows q 1) && is rows k 2 (requirement_of rows q).place))
  unfolding owned_by own_place owner_place owner_of
  of_requirement x q o l h k = go (is rows k 0 x) refl
    where
      go : (b : Bool) → is rows k 0 x ≡ b
          → (is rows k 0 x && eqb (or_end rows (owner_of rows (owner_kind (num rows k 0)) k)) q)
          ≡ (is rows k 0 x && (is rows k 1 (num rows q 1) && is rows k 2 (requirement_of rows q).place))
      go true e = rw (e, is_num rows k 0 x e, o) (unfold is in same_requirement q (num rows k 1) (num rows k 2) l h)
      go false e = rw e

  module _ (q : ℕ) (l : q < row_count rows) (h : is rows q 0 5 ≡ true) where
    abbrev wanted : ℕ → List ℕ
    wanted k = given (eqb (num_at (sheet rows) k 1) (requirement_of rows q).activity && eqb (num_at (sheet rows) k 2) (requirement_of rows q).place) (num_at (sheet rows) k 3)

    -- a candidate of the requirement, or a skill that it asks for
    pub wanted_at : (x : ℕ) → owner_kind x ≡ Some RequirementRow → ((k : ℕ) → is rows k 0 x ≡ true → wanted k ≡ given (is rows k 1 (num rows q 1) && is rows k 2 (requirement_of rows q).place) (num rows k 3))
        → (k : ℕ) → row_at (sheet rows) x wanted k ≡ given (owned_by rows q x k) (num rows k 3)
    wanted_at x o w k = rw (of_requirement x q o l h k) (go (is rows k 0 x) refl)
      where
        go : (b : Bool) → is rows k 0 x ≡ b
            → row_at (sheet rows) x wanted k ≡ given (is rows k 0 x && (is rows k 1 (num rows q 1) && is rows k 2 (requirement_of rows q).place)) (num rows k 3)
        go true e = row_here rows k x wanted e ∙ rw e (w k e)
        go false e = row_none rows k x wanted e ∙ rw e

    pub candidates_are : candidates (sheet rows) (requirement_of rows q) ≡ collect (λ k. given (owned_by rows q 6 k) (num rows k 3)) (row_count rows)
    unfolding named_for
    candidates_are = collect_ext _ _ (row_count rows) (λ k m. wanted_at 6 (unfold owner_kind in refl) (λ j e. unfold is in rw (is_num rows j 0 6 e)) k)

-- ---- a list of what passes a test, place by place

module _ {A : Type 0} (p : ℕ → Bool) (y : ℕ → A) where
  pub none_given : (n : ℕ) → is_empty (collect (λ k. given (p k) (y k)) n) ≡ not (any_below p n)
  unfolding collect any_below
  none_given zero = refl
  none_given (suc n) = go (collect (λ k. given (p k) (y k)) n) (p n) (none_given n)
    where
      go : (l : List A) (b : Bool) → is_empty l ≡ not (any_below p n) → is_empty (l ++ given b (y n)) ≡ not (any_below p n || b)
      go [] true e = sym (or_one (any_below p n))
        where
          or_one : (a : Bool) → not (a || true) ≡ false
          or_one true = refl
          or_one false = refl
      go [] false e = e ∙ or_none_lem (any_below p n)
        where
          or_none_lem : (a : Bool) → not a ≡ not (a || false)
          or_none_lem true = refl
          or_none_lem false = refl
      go (x ∷ l) b e = go_some (any_below p n) e
        where
          go_some : (a : Bool) → false ≡ not a → false ≡ not (a || b)
          go_some true z = refl
          go_some false z = absurd (true≢false (sym z))

module _ (p : ℕ → Bool) (y : ℕ → ℕ) where
  pub among_given : (x n : ℕ) → among x (collect (λ k. given (p k) (y k)) n) ≡ any_below (λ k. p k && eqb (y k) x) n
  unfolding any_of
  among_given x n = any_collect (eqb x) (λ k. given (p k) (y k)) n ∙ any_same _ _ n (λ k l. go k (p k) (eqb_swap x (y k)))
    where
      go : (k : ℕ) (b : Bool) → eqb x (y k) ≡ eqb (y k) x → any_of (eqb x) (given b (y k)) ≡ (b && eqb (y k) x)
      go k true e = or-false (eqb x (y k)) ∙ e
      go k false e = refl
