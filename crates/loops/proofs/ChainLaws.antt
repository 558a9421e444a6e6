-- Laws of chains: how they are filled, and how a loop over a chain passes over the other rows. Assumes nothing.
use Prim.Native.Nat.{ℕ, suc, ◌+◌, ◌-◌, ◌<◌, ◌≤◌}
use mathlib.Core.Path.{◌≡◌, refl, sym, ap, ◌∙◌}
use mathlib.Core.Bool.{Bool, true, false}
use mathlib.Core.List.{List}
use native.Mathlib.Omega.{arith}
use native.Mathlib.Numerals.{add-one}
use native.Mathlib.Decide.{ℕ_discrete}
use lib.ListN.{get_or, set, replicate, get_or-replicate, length-set, length-replicate}
use lib.Seq.{get_or-set_same, get_or-set_other}
use borrow.Author.Tests.{eq-eqb, ne_eqb, eqb-true}
use Rattle.loops.specs.inner.Chain.{same, First, Links}

-- ---- the fill
module _ (key : ℕ → ℕ) (m n : ℕ) where
  pub links_start : n ≤ 800 → m ≤ 60000 → Links key m n n (replicate (800 + m) n)
  links_start h l = record {
    size = length-replicate {A = ℕ} (800 + m) n;
    head = λ k q. rw (get_or-replicate {A = ℕ} (800 + m) (800 + k) n 0 (omega arith)) (record {
      low = omega arith;
      high = omega arith;
      none = λ j a b. absurd (omega arith);
      here = λ a. absurd (omega arith);
    });
    next = λ j a b. absurd (omega arith);
    past = λ j a b. get_or-replicate {A = ℕ} (800 + m) j n 0 (omega arith);
  }

  sooner : (p : ℕ → Bool) (i j : ℕ) → p i ≡ false → First p (i + 1) n j → First p i n j
  sooner p i j e f = record {
    low = omega (arith, f.low);
    high = f.high;
    here = f.here;
    none = λ k a b. go k a b (ℕ_discrete k i);
  }
    where
      go : (k : ℕ) → i ≤ k → k < j → Dec (k ≡ i) → p k ≡ false
      go k a b (yes q) = ap p q ∙ e
      go k a b (no q) = f.none k (omega arith) b

  pub links_turn : (i : ℕ) (t : List ℕ) → i < n → n ≤ 800 → key i < m → Links key m (i + 1) n t
      → Links key m i n (set (set t i (get_or t (800 + key i) 0)) (800 + key i) i)
  unfolding same
  links_turn i t l u b h = record {
    size = length-set (set t i (get_or t (800 + key i) 0)) (800 + key i) i ∙ length-set t i (get_or t (800 + key i) 0) ∙ h.size;
    head = λ k q. heads k q (ℕ_discrete k (key i));
    next = λ j a q. nexts j a q (ℕ_discrete j i);
    past = λ j a q. kept_at j (λ z. omega arith) (λ z. omega arith) ∙ h.past j a q;
  }
    where
      v : ℕ
      v = get_or t (800 + key i) 0

      t' : List ℕ
      t' = set (set t i v) (800 + key i) i

      kept_at : (j : ℕ) → (j ≡ i → ⊥) → (j ≡ 800 + key i → ⊥) → get_or t' j 0 ≡ get_or t j 0
      kept_at j a q = get_or-set_other (set t i v) (800 + key i) j i 0 q ∙ get_or-set_other t i j v 0 a

      heads : (k : ℕ) → k < m → Dec (k ≡ key i) → First (same key k) i n (get_or t' (800 + k) 0)
      heads k q (yes e) = rw (e, get_or-set_same (set t i v) (800 + key i) i 0 (omega (arith, length-set t i v, h.size)))
          (record { low = omega arith; high = omega arith; none = λ j a z. absurd (omega arith); here = λ a. eq-eqb (key i) (key i) refl })
      heads k q (no e) = rw (kept_at (800 + k) (λ a. omega arith) (λ a. e (omega arith)))
          (sooner (same key k) i _ (ne_eqb (key i) k (λ a. e (sym a))) (h.head k q))

      nexts : (j : ℕ) → i ≤ j → j < n → Dec (j ≡ i) → First (same key (key j)) (j + 1) n (get_or t' j 0)
      nexts j a q (yes e) = rw (e, get_or-set_other (set t i v) (800 + key i) i i 0 (λ z. omega arith), get_or-set_same t i v 0 (omega (arith, h.size)))
          (h.head (key i) b)
      nexts j a q (no e) = rw (kept_at j e (λ z. omega arith)) (h.next j (omega arith) q)

  -- a turn of the loop that fills, from the last place down
  pub links_again : (i k : ℕ) (t t' : List ℕ) → 0 < i → i ≤ n → n ≤ 800 → k ≡ key (i - 1) → key (i - 1) < m → Links key m i n t
      → t' ≡ set (set t (i - 1) (get_or t (800 + k) 0)) (800 + k) (i - 1) → Links key m (i - 1) n t'
  links_again i k t t' z l u e b h q =
      let s : i ≡ i - 1 + 1 = omega arith in
      rw (q, e) (links_turn (i - 1) t (omega arith) u b (rw s at h))

  pub links_done : (i N : ℕ) (t : List ℕ) → i ≤ 0 → n ≡ N → Links key m i n t → Links key m 0 N t
  links_done i N t z q h = let s : i ≡ 0 = omega arith in rw (← s, ← q) h

-- the next place of a chain's place
pub links_next : (key : ℕ → ℕ) (m n : ℕ) (t : List ℕ) (k i : ℕ) → Links key m 0 n t → same key k i ≡ true → i < n → First (same key k) (suc i) n (get_or t i 0)
unfolding same
links_next key m n t k i h e l = let q : key i ≡ k = eqb-true (key i) k e in rw (q, add-one) at (h.next i (omega arith) l)
