-- Stores one after the other: `sets l i vs` puts vs in l from place i on, as far as l goes; a table that a loop fills row by row. Assumes nothing.
use Prim.Native.Nat.{ℕ, zero, suc, ◌+◌, ◌≤◌, ◌<◌, min}
use mathlib.Core.List.{List, [], ◌∷◌, ◌++◌}
use mathlib.Core.Path.{◌≡◌, refl, sym, ap, subst, ◌∙◌}
use native.Mathlib.Omega.{arith}
use native.Mathlib.Nat.{add-zero}
use native.Mathlib.Decide.{ℕ_discrete, dec_lt}
use lib.ListN.{length, get_or, set, replicate, length-set, length-replicate, length-append}
use lib.Seq.{sets, set_out, length-sets, get_or-set_same, get_or-set_other}
use Rattle.loops.specs.inner.Wrote.{Wrote}

module _ {A : Type 0} where
  -- two runs of stores are one
  pub sets_append : (l : List A) (i : ℕ) (a b : List A) → sets (sets l i a) (i + length a) b ≡ sets l i (a ++ b)
  sets_append l i [] b = rw (add-zero i)
  sets_append l i (x ∷ a) b = let e : i + suc (length a) ≡ suc i + length a = omega arith in rw e (sets_append (set l i x) (suc i) a b)

  -- past the end nothing is stored
  pub sets_out : (l : List A) (i : ℕ) (vs : List A) → length l ≤ i → sets l i vs ≡ l
  sets_out l i [] h = refl
  sets_out l i (x ∷ vs) h = rw (set_out l i x h) (sets_out l (suc i) vs (omega arith))

  -- so the place may be held to the end
  pub sets_min : (l : List A) (i : ℕ) (vs : List A) → sets l (min i (length l)) vs ≡ sets l i vs
  sets_min l i vs = go (dec_lt i (length l))
    where
      go : Dec (i < length l) → sets l (min i (length l)) vs ≡ sets l i vs
      go (yes h) = let e : min i (length l) ≡ i = omega arith in rw e
      go (no h) = let e : min i (length l) ≡ length l = omega arith in rw e (sets_out l (length l) vs (omega arith) ∙ sym (sets_out l i vs (omega arith)))

  -- ---- what is written to a buffer, one after the other
  pub wrote_none : (l : List A) (at : ℕ) → at ≤ length l → Wrote l at l at []
  wrote_none l at h = record { place = omega arith; buffer = refl }

  pub wrote_long : {l m : List A} {i j : ℕ} {a : List A} → Wrote l i m j a → length m ≡ length l
  wrote_long {l = l} {i = i} {a = a} v = ap length v.buffer ∙ length-sets l i a

  pub wrote_within : {l m : List A} {i j : ℕ} (a : List A) → Wrote l i m j a → j ≤ length m
  wrote_within a v = omega (arith, v.place, wrote_long v)

  pub wrote_as : {l m : List A} {i j : ℕ} {a b : List A} → a ≡ b → Wrote l i m j a → Wrote l i m j b
  wrote_as {l = l} {m = m} {i = i} {j = j} e v = subst (λ (x : List A). Wrote l i m j x) e v

  -- all that was written from the start on
  pub wrote_there : {l m : List A} {j : ℕ} (a b : List A) → Wrote l 0 m j a → a ≡ b → m ≡ sets l 0 b
  wrote_there a b v e = (wrote_as e v).buffer

  pub wrote_then : {l m o : List A} {i j k : ℕ} (a b : List A) → Wrote l i m j a → Wrote m j o k b → Wrote l i o k (a ++ b)
  wrote_then {l = l} {m = m} {i = i} a b v w =
      let e = wrote_long v in
      record {
        place = simp length-append (omega (arith, v.place, w.place, e));
        buffer =
            w.buffer ∙ rw (v.place, v.buffer)
            (ap (λ (k : ℕ). sets (sets l i a) (min (i + length a) k) b) (sym (length-sets l i a)) ∙ sets_min (sets l i a) (i + length a) b ∙ sets_append l i a b);
      }

-- ---- a table with a number for each row

-- what stands in the rows below k of a table of 800 places; the others are 0 still
pub record Filled (f : ℕ → ℕ) (k : ℕ) (t : List ℕ) : Type 0 where
  pub size : length t ≡ 800
  pub at : (j : ℕ) → j < k → get_or t j 0 ≡ f j
  pub rest : (j : ℕ) → k ≤ j → get_or t j 0 ≡ 0

zeros : (n j : ℕ) → ◌≡◌ {A = ℕ} (get_or (replicate n 0) j 0) 0
zeros zero j = refl
zeros (suc n) zero = refl
zeros (suc n) (suc j) = zeros n j

pub filled_start : (f : ℕ → ℕ) → Filled f 0 (replicate 800 0)
filled_start f = record { size = length-replicate {A = ℕ} 800 0; at = λ j l. absurd (omega arith); rest = λ j l. zeros 800 j }

pub filled_turn : (f : ℕ → ℕ) (k v : ℕ) (t t' : List ℕ) → k < 800 → v ≡ f k → t' ≡ set t k v → Filled f k t → Filled f (k + 1) t'
filled_turn f k v t t' l e q h =
    rw q
    (record {
      size = length-set t k v ∙ h.size;
      at = λ j b. go j b (ℕ_discrete j k);
      rest = λ j b. get_or-set_other t k j v 0 (λ z. omega arith) ∙ h.rest j (omega arith);
    })
  where
    go : (j : ℕ) → j < k + 1 → Dec (j ≡ k) → get_or (set t k v) j 0 ≡ f j
    go j b (yes z) = rw z (get_or-set_same t k v 0 (omega (arith, h.size)) ∙ e)
    go j b (no z) = get_or-set_other t k j v 0 z ∙ h.at j (omega arith)
