-- Laws of the chains by owner and kind: two kinds may share a chain, and a search passes over the rows of the other kind. Assumes nothing.
use Prim.Native.Nat.{ℕ, suc, ◌+◌, ◌-◌, ◌*◌, ◌%◌, ◌<◌, ◌≤◌}
use mathlib.Core.Path.{◌≡◌, refl, sym, ap, ◌∙◌}
use mathlib.Core.Bool.{Bool, true, false, true≢false, ◌&&◌}
use mathlib.Core.List.{List}
use native.Mathlib.Omega.{arith}
use lib.Dec.{eqb, ltb}
use lib.IntN.{ℤ}
use lib.ListN.{get_or, set}
use borrow.Author.Tests.{eqb-true, eq-eqb}
use Rattle.std.proofs.Math.Bool.{and_comm}
use Rattle.loops.specs.Search.{any_below}
use Rattle.loops.specs.inner.Chain.{same, First, Links, Stands, Blind}
use Rattle.loops.proofs.BoolLaws.{and_left, and_right}
use Rattle.loops.proofs.ChainLaws.{links_again, links_next}
use Rattle.loops.proofs.TableLaws.{seeking_from}
use Rattle.loops.proofs.Walks.{stands}
use Rattle.chains.specs.inner.Along.{Along, Means, Sought}
use Rattle.chains.proofs.TableWalk.{links_along, sought_all, sought_below}
use Rattle.rows.specs.Cells.{row_count, num, is}
use Rattle.sheet.proofs.Lookups.{is_num}
use Rattle.owners.specs.inner.Owners.{own_place, owned_by, owned_key, Owned}
use Rattle.owners.proofs.Tables.{own_below, owned_below}

-- ---- the fill

module _ (rows : List ℤ) {n : ℕ} (e : n ≡ row_count rows) (u : row_count rows ≤ 800) where
  -- row i - 1 before the other rows of its key
  pub owned_again : {i k : ℕ} {t t' : List ℕ} → 0 < i → i ≤ n → k ≡ owned_key rows (i - 1) → Links (owned_key rows) 8010 i n t
      → t' ≡ set (set t (i - 1) (get_or t (800 + k) 0)) (800 + k) (i - 1) → Links (owned_key rows) 8010 (i - 1) n t'
  owned_again {i} {k} {t} {t'} z l q h s = links_again (owned_key rows) 8010 n i k t t' z l (omega arith) q (owned_below rows _ refl u) h s

-- ---- what is read

module _ (rows : List ℤ) (o x : ℕ) where
  abbrev key : ℕ
  key = o * 10 + x % 10

  -- a row of kind x of owner o has the key
  pub owned_keyed : (k : ℕ) → owned_by rows o x k ≡ true → same (owned_key rows) key k ≡ true
  unfolding owned_by same owned_key
  owned_keyed k e =
      let a : num rows k 0 ≡ x = is_num rows k 0 x (and_left (is rows k 0 x) (eqb (own_place rows k) o) e) in
      let b : own_place rows k ≡ o = eqb-true (own_place rows k) o (and_right (is rows k 0 x) (eqb (own_place rows k) o) e) in
      eq-eqb (own_place rows k * 10 + num rows k 0 % 10) key (rw (a, b))

  -- a row that it belongs to is a row, or the number of rows
  pub owner_low : (k : ℕ) → Stands (owned_by rows o x) (row_count rows) k → k < row_count rows → o ≤ row_count rows
  unfolding owned_by
  owner_low k s l =
      let b : own_place rows k ≡ o = eqb-true (own_place rows k) o (and_right (is rows k 0 x) (eqb (own_place rows k) o) (s.here l)) in
      omega (arith, own_below rows k)

  pub owned_blind : Blind (same (owned_key rows) key) (owned_by rows o x)
  owned_blind = record { still = λ k e. go k e (owned_by rows o x k) refl }
    where
      go : (k : ℕ) → same (owned_key rows) key k ≡ false → (b : Bool) → owned_by rows o x k ≡ b → owned_by rows o x k ≡ false
      go k e true q = absurd (true≢false (sym (owned_keyed k q) ∙ e))
      go k e false q = q

  -- a row that has the key is one of the owner's where it is of the kind
  keyed_owned : (k : ℕ) → same (owned_key rows) key k ≡ true → is rows k 0 x ≡ true → owned_by rows o x k ≡ true
  unfolding owned_by same owned_key
  keyed_owned k e f =
      let a : num rows k 0 ≡ x = is_num rows k 0 x f in
      let b : own_place rows k * 10 + num rows k 0 % 10 ≡ o * 10 + x % 10 = eqb-true (own_place rows k * 10 + num rows k 0 % 10) key e in
      let m : num rows k 0 % 10 ≡ x % 10 = ap (λ y. y % 10) a in
      rw (f, eq-eqb (own_place rows k) o (omega arith))

  pub keyed_kind : (k : ℕ) → same (owned_key rows) key k ≡ true → is rows k 0 x ≡ owned_by rows o x k
  unfolding owned_by
  keyed_kind k e = go (is rows k 0 x) refl
    where
      go : (b : Bool) → is rows k 0 x ≡ b → b ≡ owned_by rows o x k
      go true f = sym (keyed_owned k e f)
      go false f = rw f

  module _ (f : ℕ → Bool) where
    -- a row of the kind that passes a test
    abbrev passing : ℕ → Bool
    passing k = owned_by rows o x k && f k

    passing_blind : Blind (same (owned_key rows) key) passing
    passing_blind = record { still = λ k e. rw (owned_blind.still k e) }

    keyed_passing : (k : ℕ) → same (owned_key rows) key k ≡ true → (f k && is rows k 0 x) ≡ passing k
    keyed_passing k e = and_comm (f k) (is rows k 0 x) ∙ ap (λ b. b && f k) (keyed_kind k e)

  module _ (t : List ℕ) (h : Owned rows t) where
    pub owned_sought : {may : ℕ → Bool → Type 0} {j n r : ℕ} → ((i : ℕ) (b : Bool) → may i b → b ≡ is rows i 0 x) → n ≡ row_count rows → Stands (same (owned_key rows) key) (row_count rows) j
        → ((p q : ℕ → Bool) (N : ℕ) → Along p N t → Stands p N j → n ≤ N → Blind p q → Means p q may → Sought q j n N r) → First (owned_by rows o x) j (row_count rows) r
    owned_sought m e s f =
        sought_all e (f _ _ _ (links_along h.links key) s (omega arith) owned_blind (record { says = λ i b z w. m i b w ∙ keyed_kind i z }))

    -- whether a row of the kind passes a test, by a search that asks for both
    pub passing_sought : {may : ℕ → Bool → Type 0} {j n r : ℕ} (f : ℕ → Bool) → ((i : ℕ) (b : Bool) → may i b → b ≡ (f i && is rows i 0 x)) → n ≡ row_count rows → o ≤ row_count rows → j ≡ get_or t (800 + key) 0
        → ((p q : ℕ → Bool) (N : ℕ) → Along p N t → Stands p N j → n ≤ N → Blind p q → Means p q may → Sought q j n N r) → ltb r n ≡ any_below (λ k. owned_by rows o x k && f k) (row_count rows)
    passing_sought {may} {j} {n} {r} f m e l d s =
        let g : First (same (owned_key rows) key) 0 (row_count rows) j = rw d (h.links.head key (omega (arith, h.short))) in
        let k = s _ _ _ (links_along h.links key) (stands _ _ _ g) (omega arith) (passing_blind f) (record { says = λ i b z w. m i b w ∙ keyed_passing f i z }) in
        sought_below n (passing_blind f) g k ∙ ap (any_below (passing f)) e

    -- the first row of the chain, and the first of the kind
    module _ (l : o ≤ row_count rows) {j : ℕ} (e : j ≡ get_or t (800 + key) 0) where
      head : First (same (owned_key rows) key) 0 (row_count rows) j
      head = rw e (h.links.head key (omega (arith, h.short)))

      pub head_stands : Stands (same (owned_key rows) key) (row_count rows) j
      head_stands = stands _ _ _ head

      pub head_join : {r : ℕ} → First (owned_by rows o x) j (row_count rows) r → First (owned_by rows o x) 0 (row_count rows) r
      head_join f = seeking_from _ _ _ _ _ _ owned_blind head f

    -- the next row of the chain, and the next of the kind
    module _ {i j : ℕ} (s : Stands (owned_by rows o x) (row_count rows) i) (l : i < row_count rows) (e : j ≡ get_or t i 0) where
      next : First (same (owned_key rows) key) (suc i) (row_count rows) j
      next = rw e (links_next _ _ _ _ _ _ h.links (owned_keyed i (s.here l)) l)

      pub next_stands : Stands (same (owned_key rows) key) (row_count rows) j
      next_stands = stands _ _ _ next

      pub next_join : {r : ℕ} → First (owned_by rows o x) j (row_count rows) r → First (owned_by rows o x) (suc i) (row_count rows) r
      next_join f = seeking_from _ _ _ _ _ _ owned_blind next f
