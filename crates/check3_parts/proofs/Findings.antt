-- The findings by a split: what the code tests of the bookings and the sums is what `check_parts` says of the map of the parts. Assumes nothing.
use Prim.Native.Nat.{ℕ, ◌<◌, ◌≤◌}
use mathlib.Core.Path.{◌≡◌, refl, ap, sym, ◌∙◌}
use mathlib.Core.Bool.{Bool, true, false, cond, ◌&&◌, ◌||◌, or-true, or-false}
use mathlib.Core.List.{List, [], ◌∷◌, ◌++◌, append-nil, foldl}
use native.Mathlib.Omega.{arith}
use lib.Dec.{eqb, ltb}
use lib.IntN.{ℤ, pos, negsuc}
use lib.ListN.{length}
use lib.Signed.{lt_z}
use borrow.Author.Tests.{lt-ltb, le-ltb, eq-eqb, ne_eqb}
use Rattle.loops.specs.Lists.{given, any_of, is_empty}
use Rattle.loops.specs.Numbers.{to_nat}
use Rattle.loops.specs.Ordered.{Entry, entry, upsert}
use Rattle.loops.specs.inner.Chain.{only}
use Rattle.loops.proofs.IntegerLaws.{signed_total}
use Rattle.loops.proofs.ListLaws.{any_collect}
use Rattle.loops.proofs.PlaceLaws.{any_same}
use Rattle.chains.specs.Places.{places}
use Rattle.chains.proofs.PlaceLaws.{any_places}
use Rattle.rows.specs.Cells.{row_count, cell, num}
use Rattle.owners.specs.inner.Owners.{owned_by}
use Rattle.model.specs.Schedule.{Part}
use Rattle.definition.specs.CheckParts.{parts_of, check_parts_of}
use Rattle.check3_parts.specs.inner.Booked.{has_part, part_of, part_at, parts_below, parts_in, without_part, whole_at, whole_in, outside, outside_at, some_outside, total_findings, short_parts, split_findings}
use Rattle.check3_parts.specs.inner.Measure.{measured}
use Rattle.check3_parts.proofs.Sums.{count_is, work_all}

-- ---- a booking of the whole activity

pub whole_told : (rows : List ℤ) (o : ℕ) → any_of (without_part rows) (places (owned_by rows o 23) (row_count rows)) ≡ whole_in rows o
unfolding whole_in whole_at without_part
whole_told rows o = any_places (owned_by rows o 23) (without_part rows) (row_count rows)

-- ---- no booking of a part, no part

put_some : (k : ℤ) (v : ℕ) (m : List (Entry ℤ ℕ)) → 0 < length (upsert lt_z k v (λ w. v) m)
unfolding upsert
put_some k v [] = omega arith
put_some k v (e ∷ m) = go (lt_z k e.key) (lt_z e.key k)
  where
    go : (a b : Bool) → 0 < length (cond a (entry k v ∷ e ∷ m) (cond b (e ∷ upsert lt_z k v (λ w. v) m) (entry e.key v ∷ m)))
    go true b = omega arith
    go false true = omega arith
    go false false = omega arith

fold_some : (l : List Part) (m : List (Entry ℤ ℕ)) → 0 < length m → 0 < length (foldl (λ m p. upsert lt_z p.index p.work (λ w. p.work) m) m l)
fold_some [] m h = h
fold_some (p ∷ l) m h = fold_some l (upsert lt_z p.index p.work (λ w. p.work) m) (put_some p.index p.work m)

nonzero : (n : ℕ) → 0 < n → eqb n 0 ≡ false
nonzero n h = ne_eqb n 0 (λ z. omega arith)

pub empty_is : (l : List Part) → is_empty l ≡ eqb (length (parts_of l)) 0
unfolding parts_of
empty_is [] = refl
empty_is (p ∷ l) = sym (nonzero _ (fold_some l (upsert lt_z p.index p.work (λ w. p.work) []) (put_some p.index p.work [])))

-- ---- an index that the split does not have

module _ (q : ℤ → Bool) where
  after : (a b : Bool) → (a || b) ≡ (b || a)
  after true b = sym (or-true b)
  after false b = sym (or-false b)

  grouped : (a b c : Bool) → (a || (b || c)) ≡ ((a || b) || c)
  grouped true b c = refl
  grouped false b c = refl

  again : (a b : Bool) → (a || b) ≡ ((a || b) || a)
  again true b = refl
  again false b = sym (or-false b)

  any_put : (k : ℤ) (v : ℕ) (m : List (Entry ℤ ℕ)) → any_of (λ e. q e.key) (upsert lt_z k v (λ w. v) m) ≡ (any_of (λ e. q e.key) m || q k)
  unfolding any_of upsert
  any_put k v [] = or-false (q k)
  any_put k v (e ∷ m) = go (lt_z k e.key) (lt_z e.key k) refl refl (any_put k v m)
    where
      go : (a b : Bool) → lt_z k e.key ≡ a → lt_z e.key k ≡ b → any_of (λ e. q e.key) (upsert lt_z k v (λ w. v) m) ≡ (any_of (λ e. q e.key) m || q k)
          → any_of (λ e. q e.key) (cond a (entry k v ∷ e ∷ m) (cond b (e ∷ upsert lt_z k v (λ w. v) m) (entry e.key v ∷ m))) ≡ ((q e.key || any_of (λ e. q e.key) m) || q k)
      go true b f g h = after (q k) (q e.key || any_of (λ e. q e.key) m)
      go false true f g h = ap (λ b. q e.key || b) h ∙ grouped (q e.key) (any_of (λ e. q e.key) m) (q k)
      go false false f g h = again (q e.key) (any_of (λ e. q e.key) m) ∙ ap (λ i. (q e.key || any_of (λ e. q e.key) m) || q i) (sym (signed_total k e.key f g))

  any_from : (l : List Part) (m : List (Entry ℤ ℕ))
      → any_of (λ e. q e.key) (foldl (λ m p. upsert lt_z p.index p.work (λ w. p.work) m) m l) ≡ (any_of (λ e. q e.key) m || any_of (λ p. q p.index) l)
  unfolding any_of
  any_from [] m = sym (or-false _)
  any_from (p ∷ l) m =
      any_from l (upsert lt_z p.index p.work (λ w. p.work) m)
      ∙ ap (λ b. b || any_of (λ p. q p.index) l) (any_put p.index p.work m)
      ∙ sym (grouped (any_of (λ e. q e.key) m) (q p.index) (any_of (λ p. q p.index) l))

  any_index : (l : List Part) → any_of (λ e. q e.key) (parts_of l) ≡ any_of (λ p. q p.index) l
  unfolding parts_of
  any_index l = any_from l [] ∙ (unfold any_of in refl)

module _ (rows : List ℤ) (x o : ℕ) where
  outside_here : (k : ℕ) → any_of (λ p. outside (cell rows x 2) p.index) (part_at rows o k) ≡ (owned_by rows o 23 k && outside_at rows x k)
  unfolding part_at outside_at only any_of
  outside_here k = go (owned_by rows o 23 k) (has_part rows k)
    where
      go : (a b : Bool) → any_of (λ p. outside (cell rows x 2) p.index) (cond a (given b (part_of rows k)) []) ≡ (a && (b && outside (cell rows x 2) (cell rows k 7)))
      go true true = or-false (outside (cell rows x 2) (cell rows k 7))
      go true false = refl
      go false b = refl

  pub outside_told : any_of (outside_at rows x) (places (owned_by rows o 23) (row_count rows)) ≡ some_outside rows x (parts_in rows o)
  unfolding parts_below
  outside_told =
      any_places (owned_by rows o 23) (outside_at rows x) (row_count rows)
      ∙ any_same _ _ (row_count rows) (λ k l. sym (outside_here k))
      ∙ sym (any_collect (λ p. outside (cell rows x 2) p.index) (part_at rows o) (row_count rows))
      ∙ sym (any_index (outside (cell rows x 2)) (parts_below rows o (row_count rows)))

-- more parts than there are to be
more_than : (z : ℤ) (n : ℕ) → 0 < n → ltb (to_nat z) n ≡ lt_z z (pos n)
more_than (pos a) n h = refl
more_than (negsuc a) n h = lt-ltb 0 n h

pub not_more : (rows : List ℤ) (x : ℕ) {n v : ℕ} → 0 < n → v ≡ num rows x 2 → n ≤ v → lt_z (cell rows x 2) (pos n) ≡ false
not_more rows x {n} h q l = sym (more_than (cell rows x 2) n h) ∙ le-ltb (num rows x 2) n (rw (← q) l)

-- ---- all findings

module _ (rows : List ℤ) (x o : ℕ) where
  -- the number of parts, and their works
  abbrev count : ℕ
  count = measured (λ _. 1) (parts_in rows o)

  abbrev work : ℕ
  work = measured (λ w. w) (parts_in rows o)

  split_is : (count ≡ 0 → ⊥) → split_findings rows x o ≡ total_findings rows x o ++ cond (ltb 1 count) (short_parts rows x o) []
  unfolding split_findings check_parts_of total_findings
  split_is z = rw (← count_is (parts_in rows o), ne_eqb count 0 z, ← work_all (parts_in rows o))

  pub split_none : count ≡ 0 → split_findings rows x o ≡ []
  unfolding split_findings
  split_none z = rw (← count_is (parts_in rows o), eq-eqb count 0 z)

  pub split_one : (count ≡ 0 → ⊥) → count ≤ 1 → split_findings rows x o ≡ total_findings rows x o
  split_one z l = split_is z ∙ rw (le-ltb 1 count l) (append-nil (total_findings rows x o))

  pub split_more : 1 < count → split_findings rows x o ≡ total_findings rows x o ++ short_parts rows x o
  split_more l = split_is (λ z. omega arith) ∙ rw (lt-ltb 1 count l)
