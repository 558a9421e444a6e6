-- Laws of the tables of kinds and names: their fill, and the chains by kind and column 1, which other pairs may share. Assumes nothing.
use Prim.Native.Nat.{ℕ, suc, ◌+◌, ◌-◌, ◌<◌, ◌≤◌}
use mathlib.Core.Path.{◌≡◌, refl, sym, ◌∙◌}
use mathlib.Core.Bool.{Bool, true, false, true≢false}
use mathlib.Core.List.{List}
use native.Mathlib.Omega.{arith}
use lib.IntN.{ℤ}
use lib.ListN.{get_or, set, replicate}
use lib.Dec.{ltb}
use borrow.Author.Tests.{eq-eqb}
use Rattle.loops.specs.Search.{any_below}
use Rattle.loops.specs.inner.Chain.{same, First, Stands, Blind, Links}
use Rattle.loops.proofs.BoolLaws.{and_left, and_right}
use Rattle.loops.proofs.ChainLaws.{links_start, links_again, links_next}
use Rattle.loops.proofs.Walks.{stands}
use Rattle.chains.specs.inner.Along.{Along, Means, Sought}
use Rattle.chains.proofs.TableWalk.{links_along, sought_all, sought_below}
use Rattle.rows.specs.Cells.{row_count, num, is}
use Rattle.sheet.specs.Places.{of_kind, named}
use Rattle.sheet.specs.declared.KindTable.{KindTable}
use Rattle.sheet.specs.inner.Groups.{named_pair}
use Rattle.sheet.specs.inner.Index.{kind_key, name_hash, name_key, Shaped, Kinds}
use Rattle.sheet.proofs.Lookups.{is_num}

hash_small : (x id : ℕ) → name_hash x id < 2048
unfolding name_hash
hash_small x id = omega arith

pub hash_below : {k : ℕ} (x id : ℕ) → k ≡ name_hash x id → 800 + k < 2848
hash_below x id e = omega (arith, hash_small x id)

-- ---- the fill

-- the chains of the rows from i on
pub record Filled (rows : List ℤ) (n i : ℕ) (kinds names : List ℕ) : Type 0 where
  pub low : i ≤ n
  pub links : Links (kind_key rows) 32 i n kinds
  pub named : Links (name_key rows) 2048 i n names

module _ (rows : List ℤ) (n : ℕ) (e : n ≡ row_count rows) (s : Shaped rows) where
  -- tables that were cleared
  pub filled_start : {a b : List ℕ} → a ≡ replicate 832 n → b ≡ replicate 2848 n → Filled rows n n a b
  filled_start f g = rw (f, g) (record {
    low = omega arith;
    links = links_start (kind_key rows) 32 n (omega (arith, s.short)) (omega arith);
    named = links_start (name_key rows) 2048 n (omega (arith, s.short)) (omega arith);
  })

  -- where row i - 1 and its kind stand
  pub fill_place : {i : ℕ} {a b : List ℕ} → 0 < i → Filled rows n i a b → i - 1 < 800
  fill_place z h = omega (arith, h.low, s.short)

  -- row i - 1 is linked to the rows of its kind, then to those of its name
  pub filled_again : {i x id k : ℕ} {a a' b b' : List ℕ} → 0 < i → Filled rows n i a b → x ≡ num rows (i - 1) 0 → id ≡ num rows (i - 1) 1 → k ≡ name_hash x id
      → a' ≡ set (set a (i - 1) (get_or a (800 + x) 0)) (800 + x) (i - 1) → b' ≡ set (set b (i - 1) (get_or b (800 + k) 0)) (800 + k) (i - 1)
      → Filled rows n (i - 1) a' b'
  unfolding kind_key name_key
  filled_again {i} {x} {id} {k} {a} {a'} {b} {b'} z h f d v q r =
      let c : k ≡ name_hash (num rows (i - 1) 0) (num rows (i - 1) 1) = rw (f, d) at v in
      let u : n ≤ 800 = omega (arith, s.short) in
      record {
        low = omega (arith, h.low);
        links = links_again (kind_key rows) 32 n i x a a' z h.low u f (s.kinds (i - 1) (omega (arith, h.low))) h.links q;
        named = links_again (name_key rows) 2048 n i k b b' z h.low u c (hash_small (num rows (i - 1) 0) (num rows (i - 1) 1)) h.named r;
      }

-- ---- what is read

module _ (rows : List ℤ) (t : KindTable) (h : Kinds rows t) where
  pub kind_head : (k : ℕ) → k < 32 → First (of_kind rows k) 0 (row_count rows) (get_or t.kinds (800 + k) 0)
  unfolding of_kind same kind_key is
  kind_head k l = h.links.head k l

  pub kind_next : (k i : ℕ) → Stands (of_kind rows k) (row_count rows) i → i < row_count rows → First (of_kind rows k) (suc i) (row_count rows) (get_or t.kinds i 0)
  unfolding of_kind same kind_key is
  kind_next k i s l = links_next (kind_key rows) 32 (row_count rows) t.kinds k i h.links (s.here l) l

  pub name_head : {r : ℕ} (x id : ℕ) → r ≡ name_hash x id → First (same (name_key rows) (name_hash x id)) 0 (row_count rows) (get_or t.names (800 + r) 0)
  name_head x id e = rw e (h.names.head (name_hash x id) (hash_small x id))

-- ---- the pairs that share a chain

module _ (rows : List ℤ) (x id : ℕ) where
  pub named_keyed : (k : ℕ) → named rows x id k ≡ true → same (name_key rows) (name_hash x id) k ≡ true
  unfolding named same name_key
  named_keyed k e =
      let a : num rows k 0 ≡ x = is_num rows k 0 x (and_left (is rows k 0 x) (is rows k 1 id) e) in
      let b : num rows k 1 ≡ id = is_num rows k 1 id (and_right (is rows k 0 x) (is rows k 1 id) e) in
      eq-eqb (name_hash (num rows k 0) (num rows k 1)) (name_hash x id) (rw (a, b))

  pub name_blind : Blind (same (name_key rows) (name_hash x id)) (named rows x id)
  name_blind = record { still = λ k e. go k e (named rows x id k) refl }
    where
      go : (k : ℕ) → same (name_key rows) (name_hash x id) k ≡ false → (b : Bool) → named rows x id k ≡ b → named rows x id k ≡ false
      go k e true q = absurd (true≢false (sym (named_keyed k q) ∙ e))
      go k e false q = q

  pub pair_blind : (other : ℕ) → Blind (same (name_key rows) (name_hash x id)) (named_pair rows x id other)
  unfolding named_pair
  pair_blind other = record { still = λ k e. rw (name_blind.still k e) }

-- ---- a search along the chain of a name

module _ (rows : List ℤ) (t : KindTable) (h : Kinds rows t) (x id : ℕ) where
  -- the next row of the chain after one of the name
  pub named_next : {i j : ℕ} → Stands (named rows x id) (row_count rows) i × (i < row_count rows) → j ≡ get_or t.names i 0
      → First (same (name_key rows) (name_hash x id)) (suc i) (row_count rows) j
  named_next {i} r e = rw e (links_next (name_key rows) 2048 (row_count rows) t.names (name_hash x id) i h.names (named_keyed rows x id i (r.0.here r.1)) r.1)

  pub named_sought : {may : ℕ → Bool → Type 0} {j n r : ℕ} → ((i : ℕ) (b : Bool) → may i b → b ≡ named rows x id i) → n ≡ row_count rows
      → Stands (same (name_key rows) (name_hash x id)) (row_count rows) j
      → ((p q : ℕ → Bool) (N : ℕ) → Along p N t.names → Stands p N j → n ≤ N → Blind p q → Means p q may → Sought q j n N r) → First (named rows x id) j (row_count rows) r
  named_sought m e s f =
      sought_all e (f _ _ _ (links_along h.names (name_hash x id)) s (omega arith) (name_blind rows x id) (record { says = λ i b z w. m i b w }))

  pub pair_sought : {may : ℕ → Bool → Type 0} (other k : ℕ) {j r : ℕ} → ((i : ℕ) (b : Bool) → may i b → b ≡ named_pair rows x id other i) → k ≤ row_count rows
      → First (same (name_key rows) (name_hash x id)) 0 (row_count rows) j
      → ((p q : ℕ → Bool) (N : ℕ) → Along p N t.names → Stands p N j → k ≤ N → Blind p q → Means p q may → Sought q j k N r) → ltb r k ≡ any_below (named_pair rows x id other) k
  pair_sought other k m l g f =
      sought_below k (pair_blind rows x id other) g
      (f _ _ _ (links_along h.names (name_hash x id)) (stands _ _ _ g) l (pair_blind rows x id other) (record { says = λ i b y w. m i b w }))
