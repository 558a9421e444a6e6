-- Laws of numbers. Assumes nothing.
use Prim.Native.Nat.{ℕ, zero, suc, ◌+◌, ◌-◌, ◌<◌, ◌≤◌}
use mathlib.Core.Path.{◌≡◌, refl, sym, ap₂, subst, ◌∙◌}
use mathlib.Core.Bool.{Bool, true, false, cond, not, ◌&&◌}
use native.Mathlib.Omega.{arith}
use native.Mathlib.Decide.{dec_lt, ℕ_discrete}
use borrow.Author.Tests.{lt-ltb, le-ltb, ltb-true, ltb-false, eq-eqb, ne_eqb}
use lib.Signed.{lt_z}
use lib.Dec.{T, eqb, ltb, ltb→lt}
use lib.IntN.{pos, negsuc, ◌-ℤ◌}
use Rattle.loops.specs.Numbers.{to_nat}

pub eqb_swap : (a b : ℕ) → eqb a b ≡ eqb b a
eqb_swap a b = go (ℕ_discrete a b)
  where
    go : Dec (a ≡ b) → eqb a b ≡ eqb b a
    go (yes q) = rw (eq-eqb a b q, eq-eqb b a (sym q))
    go (no q) = rw (ne_eqb a b q, ne_eqb b a (λ z. q (sym z)))

-- equal numbers are those of which neither is below the other
pub neither_below : (a b : ℕ) → (not (ltb b a) && not (ltb a b)) ≡ eqb a b
neither_below a b = go (ℕ_discrete a b) (dec_lt a b)
  where
    go : Dec (a ≡ b) → Dec (a < b) → (not (ltb b a) && not (ltb a b)) ≡ eqb a b
    go (yes q) d = rw (le-ltb a b (omega arith), le-ltb b a (omega arith), eq-eqb a b q)
    go (no q) (yes l) = rw (lt-ltb a b l, le-ltb b a (omega arith), ne_eqb a b q)
    go (no q) (no l) = rw (lt-ltb b a (omega arith), ne_eqb a b q)

-- a difference of two natural numbers, cut at 0
pub gap : (a e : ℕ) → to_nat (pos e -ℤ pos a) ≡ e - a
gap zero e = omega arith
gap (suc a) e = go (ltb e (suc a)) refl
  where
    go : (b : Bool) → ltb e (suc a) ≡ b → to_nat (cond b (negsuc (suc a - suc e)) (pos (e - suc a))) ≡ e - suc a
    go true h = let k : e < suc a = ltb→lt e (suc a) (subst T (sym h) tt) in omega arith
    go false h = refl

-- a difference below n, and the sum that says the same
pub shorter : (a e n : ℕ) → lt_z (pos e -ℤ pos a) (pos n) ≡ ltb e (a + n)
shorter zero e n = let p : e + 0 ≡ e = omega arith in let q : n ≡ 0 + n = omega arith in ap₂ ltb p q
shorter (suc a) e n = go (ltb e (suc a)) refl
  where
    sums : suc a ≤ e → Dec (e < suc a + n) → ltb (e - suc a) n ≡ ltb e (suc a + n)
    sums h (yes l) = lt-ltb (e - suc a) n (omega arith) ∙ sym (lt-ltb e (suc a + n) l)
    sums h (no l) = le-ltb (e - suc a) n (omega arith) ∙ sym (le-ltb e (suc a + n) (omega arith))

    go : (b : Bool) → ltb e (suc a) ≡ b → lt_z (cond b (negsuc (suc a - suc e)) (pos (e - suc a))) (pos n) ≡ ltb e (suc a + n)
    go true h = let k : e < suc a = ltb-true e (suc a) h in sym (lt-ltb e (suc a + n) (omega arith))
    go false h = sums (ltb-false e (suc a) h) (dec_lt e (suc a + n))
