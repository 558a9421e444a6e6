-- Sums over the parts of an activity: what a closure gives of their works, added up. Assumes nothing.
use Rattle.std.specs.Prelude.{ℕ, ◌*◌, ◌≤◌, ◌≡◌, cond, ltb, List, ℤ}
use Rattle.loops.specs.Ordered.{Entry}
use Rattle.loops.specs.Sums.{total}
use Rattle.definition.specs.CheckParts.{parts_of}
use Rattle.check3_parts.specs.inner.Booked.{parts_below}

-- of a work the closure gives m of it, and no more than the greatest work
pub record IsMeasure (post : ℕ → ℕ → Type 0) (m : ℕ → ℕ) : Type 0 where
  pub gives : (w r : ℕ) → post w r → r ≡ m w
  pub small : (w : ℕ) → w ≤ 4000000000000 → m w ≤ 4000000000000

-- of all parts, added up
abbrev pub measured : (ℕ → ℕ) → List (Entry ℤ ℕ) → ℕ
measured m l = total (λ e. m e.value) l

-- 1 of a work below the least
abbrev pub short_of : ℕ → ℕ → ℕ
short_of least w = cond (ltb w least) 1 0

-- the sum so far is that of the bookings above row k
pub record Summed (post : ℕ → ℕ → Type 0) (rows : List ℤ) (o k sum : ℕ) : Type 0 where
  pub whole : (m : ℕ → ℕ) → IsMeasure post m → sum ≡ measured m (parts_of (parts_below rows o k))
  pub few : sum ≤ k * 4000000000000
