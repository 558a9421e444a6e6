-- Laws of a search along a chain of a table. Assumes nothing.
use Prim.Native.Nat.{ℕ, zero, suc, ◌<◌, ◌≤◌}
use mathlib.Core.Path.{◌≡◌, refl, sym, ◌∙◌}
use mathlib.Core.Bool.{Bool, false}
use mathlib.Core.List.{List}
use native.Mathlib.Omega.{arith}
use native.Mathlib.Numerals.{add-one}
use native.Mathlib.Decide.{dec_lt}
use lib.Dec.{ltb}
use borrow.Author.Tests.{lt-ltb, le-ltb}
use Rattle.loops.specs.Search.{any_below}
use Rattle.loops.specs.inner.Chain.{same, First, Links, Blind}
use Rattle.loops.proofs.ChainLaws.{links_next}
use Rattle.loops.proofs.SearchLaws.{any_zero, any_miss, any_hit}
use Rattle.chains.specs.inner.Along.{Along, Sought}

-- ---- the chains that are filled

module _ {key : ℕ → ℕ} {m n : ℕ} {t : List ℕ} (h : Links key m 0 n t) where
  pub links_along : (k : ℕ) → Along (same key k) n t
  links_along k = record { next = λ i l e. links_next key m n t k i h e l }

-- ---- what it comes to

-- the first place from i on
pub sought_all : {q : ℕ → Bool} {i n N r : ℕ} → N ≡ n → Sought q i N n r → First q i n r
sought_all e s = record { low = s.low; high = s.high; none = s.none; here = λ l. s.here (omega arith) }

-- whether there is one
pub sought_below : {p q : ℕ → Bool} {n j r : ℕ} (e : ℕ) → Blind p q → First p 0 n j → Sought q j e n r → ltb r e ≡ any_below q e
sought_below {p} {q} {n} {j} {r} e d f s = go (dec_lt r e)
  where
    none : (k : ℕ) → k < r → q k ≡ false
    none k l = at_k (dec_lt k j)
      where
        at_k : Dec (k < j) → q k ≡ false
        at_k (yes a) = d.still k (f.none k (omega arith) a)
        at_k (no a) = s.none k (omega arith) l

    none_below : (k : ℕ) → k ≤ r → any_below q k ≡ false
    none_below zero a = any_zero q
    none_below (suc k) a = rw add-one at (any_miss q k (none_below k (omega arith)) (none k (omega arith)))

    go : Dec (r < e) → ltb r e ≡ any_below q e
    go (yes l) = lt-ltb r e l ∙ any_hit q r e e l refl (s.here l)
    go (no l) = le-ltb r e (omega arith) ∙ sym (none_below e (omega arith))
