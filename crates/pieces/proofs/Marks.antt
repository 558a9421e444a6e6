-- Marks, true or false for each row. Assumes nothing.
use Prim.Native.Nat.{ℕ, zero, suc, ◌+◌, ◌<◌, ◌≤◌}
use mathlib.Core.Path.{◌≡◌, refl, ◌∙◌}
use mathlib.Core.Bool.{Bool, false}
use mathlib.Core.List.{List}
use native.Mathlib.Omega.{arith}
use native.Mathlib.Decide.{ℕ_discrete}
use lib.IntN.{ℤ}
use lib.ListN.{length, get_or, set, replicate, length-set, length-replicate}
use lib.Seq.{get_or-set_same, get_or-set_other}
use Rattle.rows.specs.Cells.{row_count}
use Rattle.pieces.specs.inner.Marks.{Marks}

-- a mark tells what it marks
pub mark_is : (rows : List ℤ) {f : ℕ → Bool} {t : List Bool} {k : ℕ} → Marks rows f t → k < row_count rows → get_or t k false ≡ f k
mark_is rows {k = k} h l = h.at k l

-- ---- a loop that marks row by row

-- the rows below k are marked, the others are not yet
pub record Marking (f : ℕ → Bool) (k : ℕ) (t : List Bool) : Type 0 where
  pub size : length t ≡ 800
  pub at : (j : ℕ) → j < k → get_or t j false ≡ f j
  pub rest : (j : ℕ) → k ≤ j → get_or t j false ≡ false

pub unmarked : (j : ℕ) → get_or (replicate 800 false) j false ≡ false
unmarked j = go 800 j
  where
    go : (n j : ℕ) → get_or (replicate n false) j false ≡ false
    go zero j = refl
    go (suc n) zero = refl
    go (suc n) (suc j) = go n j

pub marking_start : (f : ℕ → Bool) → Marking f 0 (replicate 800 false)
marking_start f = record { size = length-replicate {A = Bool} 800 false; at = λ j l. absurd (omega arith); rest = λ j l. unmarked j }

-- the rows that a table of marks says something of
module _ (rows : List ℤ) (f : ℕ → Bool) {n : ℕ} (q : n ≡ row_count rows) (s : row_count rows ≤ 800) where
  pub marking_turn : {k : ℕ} {b : Bool} (t : List Bool) → k < n → b ≡ f k → Marking f k t → Marking f (k + 1) (set t k b)
  marking_turn {k} {b} t l e h = record {
    size = length-set t k b ∙ h.size;
    at = λ j m. go j m (ℕ_discrete j k);
    rest = λ j m. get_or-set_other t k j b false (λ z. omega arith) ∙ h.rest j (omega arith);
  }
    where
      go : (j : ℕ) → j < k + 1 → Dec (j ≡ k) → get_or (set t k b) j false ≡ f j
      go j m (yes z) = rw z (get_or-set_same t k b false (omega (arith, h.size)) ∙ e)
      go j m (no z) = get_or-set_other t k j b false z ∙ h.at j (omega arith)

  pub marking_end : (k : ℕ) {t : List Bool} → n ≤ k → k ≤ n → Marking f k t → Marks rows f t
  marking_end k u l h = record { short = s; at = λ j b. h.at j (omega arith); past = λ j b. h.rest j (omega arith) }
