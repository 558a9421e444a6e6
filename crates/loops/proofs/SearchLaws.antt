-- Laws of the searches, as a loop that counts up goes through them: its start, a turn that finds nothing, the turn that finds it, its end.
-- Assumes nothing.
use Prim.Native.Nat.{ℕ, zero, suc, ◌+◌, ◌<◌, ◌≤◌}
use mathlib.Core.Path.{◌≡◌, refl, ap, sym, ◌∙◌}
use mathlib.Core.Bool.{Bool, true, false, cond, or-true}
use Rattle.std.specs.Prelude.{Option, None, Some}
use mathlib.Core.Logic.{⊎_elim}
use native.Mathlib.Omega.{arith}
use native.Mathlib.Numerals.{add-one}
use native.Mathlib.Nat.{eq-or-lt_of_le, le_of_suc-le-suc, le_antisymm, not-suc-le-zero}
use Rattle.loops.specs.Search.{or_else, some_if, first, first_place, any_below, count_below}

module _ {A : Type 0} (f : ℕ → Option A) where
  pub first_zero : first f 0 ≡ None
  unfolding first
  first_zero = refl

  pub first_miss : (i : ℕ) → first f i ≡ None → f i ≡ None → first f (i + 1) ≡ None
  unfolding first
  first_miss i e q = rw (add-one, e, q)

  first_here : (i : ℕ) {x : A} → first f i ≡ None → f i ≡ Some x → first f (suc i) ≡ Some x
  unfolding first
  first_here i e q = rw (e, q)

  first_kept : (m : ℕ) {x : A} → first f m ≡ Some x → first f (suc m) ≡ Some x
  unfolding first
  first_kept m e = rw e

  pub first_hit : (i n : ℕ) {x : A} → i < n → first f i ≡ None → f i ≡ Some x → first f n ≡ Some x
  first_hit i zero h e q = absurd (omega arith)
  first_hit i (suc m) h e q =
      ⊎_elim (λ p. rw (← p) (first_here i e q)) (λ l. first_kept m (first_hit i m l e q)) (eq-or-lt_of_le (le_of_suc-le-suc h))

  pub first_done : (i n N : ℕ) → i ≤ n → n ≤ i → n ≡ N → first f i ≡ None → None ≡ first f N
  first_done i n N h k q e = sym (ap (first f) (sym (le_antisymm h k ∙ q)) ∙ e)

module _ (p : ℕ → Bool) where
  pub place_first : (n : ℕ) → first_place p n ≡ first (λ k. some_if (p k) k) n
  unfolding first first_place
  place_first zero = refl
  place_first (suc n) = ap (λ x. or_else x (some_if (p n) n)) (place_first n)

  pub place_zero : first_place p 0 ≡ None
  unfolding first_place
  place_zero = refl

  pub place_miss : (i : ℕ) → first_place p i ≡ None → p i ≡ false → first_place p (i + 1) ≡ None
  unfolding first_place
  place_miss i e q = rw (add-one, e, q)

  place_here : (i : ℕ) → first_place p i ≡ None → p i ≡ true → first_place p (suc i) ≡ Some i
  unfolding first_place
  place_here i e q = rw (e, q)

  place_kept : (m : ℕ) {x : ℕ} → first_place p m ≡ Some x → first_place p (suc m) ≡ Some x
  unfolding first_place
  place_kept m e = rw e

  pub place_hit : (i n : ℕ) → i < n → first_place p i ≡ None → p i ≡ true → first_place p n ≡ Some i
  place_hit i zero h e q = absurd (omega arith)
  place_hit i (suc m) h e q =
      ⊎_elim (λ z. rw (← z) (place_here i e q)) (λ l. place_kept m (place_hit i m l e q)) (eq-or-lt_of_le (le_of_suc-le-suc h))

  pub any_zero : any_below p 0 ≡ false
  unfolding any_below
  any_zero = refl

  pub any_miss : (i : ℕ) → any_below p i ≡ false → p i ≡ false → any_below p (i + 1) ≡ false
  unfolding any_below
  any_miss i a e = rw (add-one i, a, e)

  any_here : (n i : ℕ) → i < n → p i ≡ true → any_below p n ≡ true
  unfolding any_below
  any_here zero i l e = absurd (not-suc-le-zero l)
  any_here (suc n) i l e =
      ⊎_elim
      (λ q. let h : p n ≡ true = ap p (sym q) ∙ e in rw h (or-true (any_below p n)))
      (λ lt. rw (any_here n i lt e))
      (eq-or-lt_of_le (le_of_suc-le-suc l))

  pub any_hit : (i n N : ℕ) → i < n → n ≡ N → p i ≡ true → true ≡ any_below p N
  any_hit i n N l q e = sym (any_here n i l e) ∙ ap (any_below p) q

  -- nothing below n passes
  pub any_none : (n i : ℕ) → any_below p n ≡ false → i < n → p i ≡ false
  any_none n i e l = go (p i) refl
    where
      go : (b : Bool) → p i ≡ b → p i ≡ false
      go true q = absurd (let z : ◌≡◌ {A = Bool} true false = sym (any_here n i l q) ∙ e in let w : ◌≡◌ {A = ℕ} 0 1 = cc in omega arith)
      go false q = q

  pub none_below : (n : ℕ) → ((k : ℕ) → k < n → p k ≡ false) → any_below p n ≡ false
  unfolding any_below
  none_below zero h = refl
  none_below (suc n) h = rw (none_below n (λ k l. h k (omega arith)), h n (omega arith))

  pub count_le : (n : ℕ) → count_below p n ≤ n
  unfolding count_below
  count_le zero = omega arith
  count_le (suc n) = let h = count_le n in go (p n) h
    where
      go : (b : Bool) → count_below p n ≤ n → count_below p n + cond b 1 0 ≤ suc n
      go true h = omega arith
      go false h = omega arith

  pub counted_le : (n : ℕ) {x : ℕ} → x ≡ count_below p n → x ≤ n
  counted_le n e = rw e (count_le n)
