-- Along a chain of places: what holds at a place holds at the next one, where the places between change nothing. Assumes nothing.
use Prim.Native.Nat.{ℕ, zero, suc, ◌+◌, ◌-◌, ◌≤◌}
use mathlib.Core.Path.{◌≡◌, ap, ◌∙◌}
use mathlib.Core.Bool.{Bool, false}
use mathlib.Core.List.{List, [], ◌++◌, append-nil}
use native.Mathlib.Omega.{arith}
use native.Mathlib.Numerals.{add-one}
use native.Mathlib.Nat.{add-zero}
use Rattle.loops.specs.Range.{collect}
use Rattle.loops.specs.inner.Chain.{First, Stands, Silent}
use Rattle.loops.proofs.RangeLaws.{collect_zero, collect_step}

-- what a place where p fails hands on to the next place is handed on to the next place where p holds
pub over : (R : ℕ → Type 0) (p : ℕ → Bool) (i n j : ℕ) → ((k : ℕ) → p k ≡ false → R k → R (k + 1)) → First p i n j → R i → R j
over R p i n j h f r =
    let s : i + (j - i) ≡ j = omega (arith, f.low) in
    rw s at (go (j - i) (omega (arith, f.low)))
  where
    go : (d : ℕ) → i + d ≤ j → R (i + d)
    go zero l = rw (add-zero i) r
    go (suc d) l =
        let s : i + d + 1 ≡ i + suc d = omega arith in
        rw s at (h (i + d) (f.none (i + d) (omega arith) (omega arith)) (go d (omega arith)))

pub stands : {p : ℕ → Bool} (i n j : ℕ) → First p i n j → Stands p n j
stands i n j f = record { high = f.high; here = f.here }

-- ---- a list that is put together

module _ {A : Type 0} (f : ℕ → List A) where
  -- where f gives nothing the list does not change
  pub collect_still : {p : ℕ → Bool} → Silent p f → (k : ℕ) → p k ≡ false → collect f (k + 1) ≡ collect f k
  collect_still q k z = collect_step f k ∙ ap (λ l. collect f k ++ l) (q.still k z) ∙ append-nil (collect f k)

  pub collect_first : {p : ℕ → Bool} {n i : ℕ} → First p 0 n i → Silent p f → collect f i ≡ []
  collect_first s q = over (λ k. collect f k ≡ []) _ 0 _ _ (λ k z r. collect_still q k z ∙ r) s (collect_zero f)

  pub collect_next : {p : ℕ → Bool} {n j i : ℕ} → First p (suc i) n j → Silent p f → collect f j ≡ collect f i ++ f i
  collect_next {p} {n} {j} {i} s q = over (λ k. collect f k ≡ collect f i ++ f i) _ (suc i) _ _ (λ k z r. collect_still q k z ∙ r) s (rw add-one at (collect_step f i))
