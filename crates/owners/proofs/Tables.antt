-- Laws of the loops that fill the tables, and how large their entries are. Assumes nothing.
use Prim.Native.Nat.{ℕ, suc, ◌+◌, ◌*◌, ◌%◌, ◌<◌, ◌≤◌}
use mathlib.Core.Path.{◌≡◌, refl, sym, ap, ◌∙◌}
use mathlib.Core.Bool.{Bool, true, false, cond}
use mathlib.Core.List.{List}
use Rattle.std.specs.Prelude.{Option, None, Some}
use native.Mathlib.Omega.{arith}
use native.Mathlib.Numerals.{add-one}
use native.Mathlib.Nat.{le_antisymm}
use native.Mathlib.Decide.{ℕ_discrete}
use lib.ListN.{length, get_or, set, replicate, get_or-replicate, length-set, length-replicate}
use lib.Seq.{get_or-set_same, get_or-set_other}
use lib.IntN.{ℤ}
use mir.Syntax.{w64}
use mir.Val.{Fits}
use borrow.Author.Tests.{eq-eqb, ne_eqb}
use Rattle.loops.specs.Search.{count_below}
use Rattle.loops.proofs.SearchLaws.{count_le, counted_le}
use Rattle.loops.proofs.PlaceLaws.{or_none_lem}
use Rattle.owners.specs.declared.Owner.{Owner}
use Rattle.owners.specs.declared.RowLinks.{RowLinks}
use Rattle.owners.specs.declared.Owner.TheVariants.{TaskRow, ActivityRow, RequirementRow, ResourceRow, ConstraintRow}
use Rattle.rows.specs.Cells.{row_count, num, is}
use Rattle.sheet.specs.Places.{named, place_of, nth_place, is_constraint, constraint_place}
use Rattle.sheet.specs.inner.Index.{or_end, stored_place}
use Rattle.sheet.proofs.Lookups.{is_nth_lem, nth_at, nth_step, too_few, placed}
use Rattle.sheet.proofs.Stored.{below, named_below, stored}
use Rattle.owners.specs.inner.Owners.{owner_kind, owner_of, owner_place, own_place, res_place, owned_key, Numbered, Linked}

-- ---- how large the entries are

none_not_some : {j : ℕ} → ◌≡◌ {A = Option ℕ} None (Some j) → ⊥
none_not_some e = let z : ◌≡◌ {A = ℕ} 0 1 = cc in omega arith

-- an owner that is found is a row
pub owner_within : (rows : List ℤ) (x : Option Owner) (k j : ℕ) → owner_of rows x k ≡ Some j → j < row_count rows
unfolding owner_of
owner_within rows (Some TaskRow) k j e = (placed rows 1 (num rows k 2) j e).within
owner_within rows (Some ActivityRow) k j e = (placed rows 2 (num rows k 1) j e).within
owner_within rows (Some RequirementRow) k j e = (nth_at (named rows 5 (num rows k 1)) (num rows k 2) (row_count rows) j e).0
owner_within rows (Some ResourceRow) k j e = (placed rows 11 (num rows k 1) j e).within
owner_within rows (Some ConstraintRow) k j e = (nth_at (is_constraint rows) (num rows k 1) (row_count rows) j e).0
owner_within rows None k j e = absurd (none_not_some e)

pub found_within : (rows : List ℤ) (k o : ℕ) {v : Option ℕ} → v ≡ owner_place rows k → v ≡ Some o → o < row_count rows
unfolding owner_place
found_within rows k o e f = owner_within rows (owner_kind (num rows k 0)) k o (sym e ∙ f)

pub own_below : (rows : List ℤ) (k : ℕ) → own_place rows k ≤ row_count rows
unfolding own_place owner_place
own_below rows k = below rows (owner_place rows k) (owner_within rows (owner_kind (num rows k 0)) k)

pub res_below : (rows : List ℤ) (k : ℕ) → res_place rows k ≤ row_count rows
unfolding res_place
res_below rows k = go (is rows k 0 23)
  where
    go : (b : Bool) → cond b (or_end rows (place_of rows 11 (num rows k 3))) (row_count rows) ≤ row_count rows
    go true = named_below rows 11 (num rows k 3)
    go false = omega arith

-- an entry that was read
module _ (rows : List ℤ) (k : ℕ) {r : ℕ} where
  pub own_read : r ≡ own_place rows k → row_count rows ≤ 800 → r ≤ 800
  own_read e l = omega (arith, own_below rows k)

  pub own_times : r ≡ own_place rows k → row_count rows ≤ 800 → Fits w64 (r * 10)
  own_times e l = record { fits = omega (arith, own_below rows k) }

  pub own_digit : (d : ℕ) → r ≡ own_place rows k → row_count rows ≤ 800 → Fits w64 (r * 10 + d % 10)
  own_digit d e l = record { fits = omega (arith, own_below rows k) }

  pub res_read : r ≡ res_place rows k → row_count rows ≤ 800 → r ≤ 800
  res_read e l = omega (arith, res_below rows k)

  pub owned_below : r ≡ owned_key rows k → row_count rows ≤ 800 → r < 8010
  unfolding owned_key
  owned_below e l = omega (arith, own_below rows k)

module _ (rows : List ℤ) {t : List ℕ} where
  pub number_read : {m i : ℕ} {x : Option ℕ} → Numbered rows t → m < 800 → i ≡ get_or t m 0 → x ≡ stored_place rows i → x ≡ constraint_place rows m
  number_read {m} h l e q =
      q ∙ stored rows (constraint_place rows m) (e ∙ h.number m l) (λ k r. (nth_at (is_constraint rows) m (row_count rows) k r).0)

module _ (rows : List ℤ) {t : RowLinks} where
  pub own_entry : (k : ℕ) → Linked rows t → k < row_count rows → get_or t.owners k 0 ≡ own_place rows k
  own_entry k h l = h.own k l

-- ---- the numbers of the constraints

-- what the loop knows at row k
pub record Numbering (rows : List ℤ) (k seen : ℕ) (t : List ℕ) : Type 0 where
  pub size : length t ≡ 800
  pub count : seen ≡ count_below (is_constraint rows) k
  pub number : (m : ℕ) → m < 800 → get_or t m 0 ≡ or_end rows (nth_place (is_constraint rows) m k)

pub numbering_start : (rows : List ℤ) (n : ℕ) → n ≡ row_count rows → Numbering rows 0 0 (replicate 800 n)
unfolding count_below or_end
numbering_start rows n e = record {
  size = length-replicate {A = ℕ} 800 n;
  count = refl;
  number = λ m l. get_or-replicate {A = ℕ} 800 m n 0 l ∙ e ∙ sym (ap (or_end rows) (too_few (is_constraint rows) m 0 (omega arith)));
}

module _ (rows : List ℤ) (k seen : ℕ) (t : List ℕ) (h : Numbering rows k seen t) where
  abbrev p : ℕ → Bool
  p = is_constraint rows

  counted : {b : Bool} {seen' : ℕ} → seen' ≡ seen + cond b 1 0 → b ≡ p k → seen' ≡ count_below p (suc k)
  unfolding count_below
  counted {b} r e = r ∙ ap (λ x. x + cond b 1 0) h.count ∙ ap (λ x. count_below p k + cond x 1 0) e

  turn : (b : Bool) (seen' : ℕ) (t' : List ℕ) → b ≡ p k → k < 800 → seen ≤ k → t' ≡ cond b (set t seen k) t → seen' ≡ seen + cond b 1 0
      → Numbering rows (suc k) seen' t'
  unfolding or_end
  turn true seen' t' e l s q r = record {
    size = ap length q ∙ length-set t seen k ∙ h.size;
    count = counted r e;
    number = λ m z. rw q (numbers m z (ℕ_discrete m seen));
  }
    where
      numbers : (m : ℕ) → m < 800 → Dec (m ≡ seen) → get_or (set t seen k) m 0 ≡ or_end rows (nth_place p m (suc k))
      numbers m z (yes a) =
          rw (a, nth_step p seen k, too_few p seen k (omega (arith, h.count)), is_nth_lem p seen k {y = true} {b = true} h.count e (sym (eq-eqb seen seen refl)))
          (get_or-set_same t seen k 0 (omega (arith, h.size)))
      numbers m z (no a) =
          rw (nth_step p m k, is_nth_lem p m k {y = true} {b = false} h.count e (sym (ne_eqb seen m (λ w. a (sym w)))))
          (get_or-set_other t seen m k 0 a ∙ h.number m z ∙ ap (or_end rows) (sym (or_none_lem (nth_place p m k))))
  turn false seen' t' e l s q r = record {
    size = ap length q ∙ h.size;
    count = counted r e;
    number = λ m z. rw (q, nth_step p m k, is_nth_lem p m k {y = false} {b = false} h.count e refl) (h.number m z ∙ ap (or_end rows) (sym (or_none_lem (nth_place p m k))));
  }

  -- there is room for one more
  pub numbering_low : {n : ℕ} → k < n → n ≡ row_count rows → row_count rows ≤ 800 → seen < 800
  numbering_low l z u = omega (arith, counted_le p k h.count)

  -- the next row, a constraint or none
  pub numbering_yes : {b : Bool} {n seen' : ℕ} {t' : List ℕ} → k < n → n ≡ row_count rows → row_count rows ≤ 800 → b ≡ p k → b ≡ true → t' ≡ set t seen k → seen' ≡ seen + 1
      → Numbering rows (k + 1) seen' t'
  numbering_yes l z u e y q r = rw add-one (turn true _ _ (sym y ∙ e) (omega arith) (counted_le p k h.count) q r)

  pub numbering_no : {b : Bool} {n seen' : ℕ} {t' : List ℕ} → k < n → n ≡ row_count rows → row_count rows ≤ 800 → b ≡ p k → b ≡ false → t' ≡ t → seen' ≡ seen
      → Numbering rows (k + 1) seen' t'
  numbering_no l z u e y q r = rw add-one (turn false _ _ (sym y ∙ e) (omega arith) (counted_le p k h.count) q (omega arith))

pub numbering_end : (rows : List ℤ) (k seen n : ℕ) (t : List ℕ) → Numbering rows k seen t → k ≤ n → n ≤ k → n ≡ row_count rows → row_count rows ≤ 800 → Numbered rows t
numbering_end rows k seen n t h a b e s = record {
  short = s;
  number = λ m l. h.number m l ∙ ap (λ y. or_end rows (nth_place (is_constraint rows) m y)) (le_antisymm a b ∙ e);
}

-- a number that no constraint has
pub past_end : (rows : List ℤ) (m : ℕ) → row_count rows ≤ 800 → 800 ≤ m → None ≡ constraint_place rows m
past_end rows m s l = sym (too_few (is_constraint rows) m (row_count rows) (omega (arith, count_le (is_constraint rows) (row_count rows))))

-- ---- the links

-- the links of the rows below k; the other places say n still
pub record Filling (rows : List ℤ) (n k : ℕ) (a b : List ℕ) : Type 0 where
  pub size : (length a ≡ 800) × (length b ≡ 800)
  pub own : (j : ℕ) → j < k → get_or a j 0 ≡ own_place rows j
  pub res : (j : ℕ) → j < k → get_or b j 0 ≡ res_place rows j
  pub rest : (j : ℕ) → k ≤ j → j < 800 → (get_or a j 0 ≡ n) × (get_or b j 0 ≡ n)

pub filling_start : (rows : List ℤ) (n : ℕ) {a b : List ℕ} → a ≡ replicate 800 n → b ≡ replicate 800 n → Filling rows n 0 a b
filling_start rows n e f = rw (e, f) (record {
  size = (length-replicate {A = ℕ} 800 n, length-replicate {A = ℕ} 800 n);
  own = λ j l. absurd (omega arith);
  res = λ j l. absurd (omega arith);
  rest = λ j l u. (get_or-replicate {A = ℕ} 800 j n 0 u, get_or-replicate {A = ℕ} 800 j n 0 u);
})

stored_at : (f : ℕ → ℕ) (k x : ℕ) (t : List ℕ) → length t ≡ 800 → k < 800 → x ≡ f k → ((j : ℕ) → j < k → get_or t j 0 ≡ f j) → (j : ℕ) → j < k + 1 → get_or (set t k x) j 0 ≡ f j
stored_at f k x t s l e h j z = go (ℕ_discrete j k)
  where
    go : Dec (j ≡ k) → get_or (set t k x) j 0 ≡ f j
    go (yes w) = rw w (get_or-set_same t k x 0 (omega arith) ∙ e)
    go (no w) = get_or-set_other t k j x 0 w ∙ h j (omega arith)

pub filling_turn : (rows : List ℤ) (n k : ℕ) {x y : ℕ} {a a' b b' : List ℕ} → Filling rows n k a b → x ≡ own_place rows k → y ≡ res_place rows k → k < n → n ≡ row_count rows
    → row_count rows ≤ 800 → a' ≡ set a k x → b' ≡ set b k y → Filling rows n (k + 1) a' b'
filling_turn rows n k {x} {y} {a} {a'} {b} {b'} h e f l d u q r = rw (q, r) (record {
  size = (length-set a k x ∙ h.size.0, length-set b k y ∙ h.size.1);
  own = stored_at (own_place rows) k x a h.size.0 (omega arith) e h.own;
  res = stored_at (res_place rows) k y b h.size.1 (omega arith) f h.res;
  rest = λ j z v.
      let w = h.rest j (omega arith) v in
      (get_or-set_other a k j x 0 (λ m. omega arith) ∙ w.0, get_or-set_other b k j y 0 (λ m. omega arith) ∙ w.1);
})

pub filling_end : (rows : List ℤ) (n k : ℕ) (t : RowLinks) → n ≤ k → k ≤ n → n ≡ row_count rows → row_count rows ≤ 800 → Filling rows n k t.owners t.resources → Linked rows t
filling_end rows n k t l u e s h = record {
  short = s;
  own = λ j z. h.own j (omega arith);
  res = λ j z. h.res j (omega arith);
  past = λ j z w. let r = h.rest j (omega arith) w in (r.0 ∙ e, r.1 ∙ e);
}

-- the row that a row belongs to, by the kind of its owner
pub own_at : (rows : List ℤ) (k : ℕ) {kind : ℕ} {x : Option Owner} → kind ≡ num rows k 0 → x ≡ owner_kind kind → (v : Option Owner) → x ≡ v
    → or_end rows (owner_of rows v k) ≡ own_place rows k
unfolding own_place owner_place
own_at rows k e q v r = ap (λ y. or_end rows (owner_of rows y k)) (sym r ∙ q ∙ ap owner_kind e)
