-- Laws of a search along a chain whose keys may collide, and of what the first place of a chain says. Assumes nothing.
use Prim.Native.Nat.{ℕ, zero, suc, ◌<◌, ◌≤◌}
use mathlib.Core.Path.{◌≡◌, refl, sym, ◌∙◌}
use mathlib.Core.Bool.{Bool, false}
use Rattle.std.specs.Prelude.{None, Some}
use native.Mathlib.Omega.{arith}
use native.Mathlib.Numerals.{add-one}
use native.Mathlib.Decide.{dec_lt}
use lib.Dec.{ltb}
use borrow.Author.Tests.{lt-ltb, le-ltb}
use Rattle.loops.specs.Search.{first_place, any_below}
use Rattle.loops.specs.inner.Chain.{First, Stands, Blind}
use Rattle.loops.proofs.SearchLaws.{place_zero, place_miss, place_hit, any_zero, any_miss, any_hit}
use Rattle.loops.proofs.Walks.{over}

-- ---- a search along a chain of the places where p holds, for those where q does

module _ (p q : ℕ → Bool) (n : ℕ) where
  -- from j to i there is none
  pub record Seeking (j i : ℕ) : Type 0 where
    pub at : Stands p n i
    pub low : j ≤ i
    pub none : (k : ℕ) → j ≤ k → k < i → q k ≡ false

  -- a chain in a chain
  pub seeking_from : (i j r : ℕ) → Blind p q → First p i n j → First q j n r → First q i n r
  seeking_from i j r h f g = record { low = omega (arith, f.low, g.low); high = g.high; here = g.here; none = λ k a z. go k a z (dec_lt k j) }
    where
      go : (k : ℕ) → i ≤ k → k < r → Dec (k < j) → q k ≡ false
      go k a z (yes l) = h.still k (f.none k a l)
      go k a z (no l) = g.none k (omega arith) z

-- ---- what the first place says

-- there is one
pub first_found : {p : ℕ → Bool} {n N j : ℕ} → First p 0 n j → j < N → N ≡ n → Some j ≡ first_place p n
first_found {p} {n} {N} {j} f l z =
    sym (place_hit p j n (omega arith) (over (λ k. first_place p k ≡ None) p 0 n j (λ k e r. place_miss p k r e) f (place_zero p)) (f.here (omega arith)))

pub first_absent : {p : ℕ → Bool} {n N j : ℕ} → First p 0 n j → N ≤ j → N ≡ n → None ≡ first_place p n
first_absent {p} {n} {N} {j} f l z =
    let e : j ≡ n = omega (arith, f.high) in
    sym (rw e at (over (λ k. first_place p k ≡ None) p 0 n j (λ k e r. place_miss p k r e) f (place_zero p)))

-- there is one before place k
pub first_below : {p : ℕ → Bool} {n j : ℕ} (k : ℕ) → k ≤ n → First p 0 n j → ltb j k ≡ any_below p k
first_below {p} {n} {j} k u f = go (dec_lt j k)
  where
    go : Dec (j < k) → ltb j k ≡ any_below p k
    go (yes l) = lt-ltb j k l ∙ any_hit p j k k l refl (f.here (omega arith))
    go (no l) = le-ltb j k (omega arith) ∙ sym (none_below k (omega arith))
      where
        none_below : (i : ℕ) → i ≤ j → any_below p i ≡ false
        none_below zero a = any_zero p
        none_below (suc i) a = rw add-one at (any_miss p i (none_below i (omega arith)) (f.none i (omega arith) (omega arith)))
