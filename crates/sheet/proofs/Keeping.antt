-- A loop that keeps a place for each row, and what is read of its table. Assumes nothing.
use Prim.Native.Nat.{ℕ, ◌+◌, ◌<◌, ◌≤◌}
use mathlib.Core.Path.{◌≡◌, ap, ◌∙◌}
use mathlib.Core.List.{List}
use Rattle.std.specs.Prelude.{Option}
use native.Mathlib.Omega.{arith}
use lib.IntN.{ℤ}
use lib.ListN.{get_or, set, replicate}
use Rattle.loops.proofs.StoreLaws.{Filled, filled_start, filled_turn}
use Rattle.rows.specs.Cells.{row_count}
use Rattle.sheet.specs.inner.Index.{or_end, stored_place}
use Rattle.sheet.specs.inner.Kept.{IsRow, Kept}
use Rattle.sheet.proofs.Stored.{stored}
use Rattle.sheet.proofs.Stored.{below}

-- a place as it is kept
pub kept_small : (rows : List ℤ) {x : Option ℕ} {i : ℕ} → row_count rows ≤ 800 → IsRow rows x → i ≡ or_end rows x → i ≤ 800
kept_small rows {x} s w e = omega (arith, below rows x w.within)

pub kept_set : (rows : List ℤ) (x : Option ℕ) {i : ℕ} (k : ℕ) (t : List ℕ) {t' : List ℕ} → i ≡ or_end rows x → t' ≡ set t k i → t' ≡ set t k (or_end rows x)
kept_set rows x k t e q = rw e at q

-- and as it is read
pub kept_read : (rows : List ℤ) {x : Option ℕ} {i j : ℕ} → i ≡ j → x ≡ stored_place rows i → x ≡ stored_place rows j
kept_read rows e q = q ∙ ap (stored_place rows) e

module _ (rows : List ℤ) (f : ℕ → Option ℕ) where
  -- the places of the rows below k
  abbrev pub Keeping : ℕ → List ℕ → Type 0
  Keeping k t = Filled (λ j. or_end rows (f j)) k t

  pub keeping_start : Keeping 0 (replicate 800 0)
  keeping_start = filled_start (λ j. or_end rows (f j))

  pub keeping_turn : (k : ℕ) {x : Option ℕ} {t t' : List ℕ} → k < 800 → x ≡ f k → t' ≡ set t k (or_end rows x) → Keeping k t → Keeping (k + 1) t'
  keeping_turn k {x} {t} {t'} l e q h = filled_turn (λ j. or_end rows (f j)) k (or_end rows x) t t' l (ap (or_end rows) e) q h

  pub keeping_end : (k n : ℕ) {t : List ℕ} → n ≤ k → k ≤ n → n ≡ row_count rows → row_count rows ≤ 800 → Keeping k t → Kept rows f t
  keeping_end k n l u z s h = record { short = s; at = λ j m. h.at j (omega arith); past = λ j m. h.rest j (omega arith) }

  pub kept_at : (k : ℕ) {x : Option ℕ} (t : List ℕ) → Kept rows f t → k < row_count rows → IsRow rows (f k) → x ≡ stored_place rows (get_or t k 0) → x ≡ f k
  kept_at k t h l w e = e ∙ stored rows (f k) (h.at k l) w.within
