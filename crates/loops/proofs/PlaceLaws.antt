-- What a search that found a place says of it, what one that found none says of every place, and searches that agree. Assumes nothing.
use Prim.Native.Nat.{ℕ, zero, suc, ◌+◌, ◌-◌, ◌<◌}
use mathlib.Core.Path.{◌≡◌, refl, ap, ap₂, sym, ◌∙◌}
use mathlib.Core.Bool.{Bool, true, false, ◌||◌, true≢false}
use Rattle.std.specs.Prelude.{Option, None, Some}
use mathlib.Core.Logic.{◌⊎◌, inl, inr, ⊎_elim}
use native.Mathlib.Omega.{arith}
use native.Mathlib.Nat.{add-zero, add-suc, eq-or-lt_of_le, le_of_suc-le-suc, not-suc-le-zero}
use Rattle.loops.specs.Search.{or_else, some_if, first, first_place, any_below}

-- ---- a place that was found

or_some : (x : Option ℕ) (b : Bool) (n k : ℕ) → or_else x (some_if b n) ≡ Some k → (x ≡ Some k) ⊎ ((b ≡ true) × (n ≡ k))
or_some (Some j) b n k e = inl e
or_some None true n k e = inr (refl, cc)
or_some None false n k e = let z : ◌≡◌ {A = ℕ} 0 1 = cc in absurd (omega arith)

pub some_is : {j k : ℕ} → ◌≡◌ {A = Option ℕ} (Some j) (Some k) → j ≡ k
some_is e = cc

-- a place below n that passes
pub record Hit (p : ℕ → Bool) (n : ℕ) : Type 0 where
  pub place : ℕ
  pub below : place < n
  pub passes : p place ≡ true

pub hit : (p : ℕ → Bool) (n : ℕ) → any_below p n ≡ true → Hit p n
unfolding any_below
hit p zero e = absurd (true≢false (sym e))
hit p (suc n) e = go (any_below p n) refl e (hit p n)
  where
    go : (b : Bool) → any_below p n ≡ b → (b || p n) ≡ true → (any_below p n ≡ true → Hit p n) → Hit p (suc n)
    go true h f r = let w = r h in record { place = w.place; below = let b = w.below in omega arith; passes = w.passes }
    go false h f r = record { place = n; below = omega arith; passes = f }

module _ (p : ℕ → Bool) where
  pub found_at : (n k : ℕ) → first_place p n ≡ Some k → (k < n) × (p k ≡ true)
  unfolding first_place
  found_at zero k e = let z : ◌≡◌ {A = ℕ} 0 1 = cc in absurd (omega arith)
  found_at (suc n) k e =
      ⊎_elim (λ q. let h = found_at n k q in (omega (arith, h.0), h.1)) (λ q. (omega (arith, q.1), rw (← q.1) q.0))
      (or_some (first_place p n) (p n) n k e)

-- ---- the first of two or three

module _ {A : Type 0} where
  pub or_none_lem : (x : Option A) → or_else x None ≡ x
  or_none_lem None = refl
  or_none_lem (Some x) = refl

  pub or_assoc : (x y z : Option A) → or_else (or_else x y) z ≡ or_else x (or_else y z)
  or_assoc None y z = refl
  or_assoc (Some x) y z = refl

-- ---- nothing found

module _ {A : Type 0} where
  pub or_none_left : (x y : Option A) → or_else x y ≡ None → x ≡ None
  or_none_left None y e = refl
  or_none_left (Some x) y e = e

  pub or_none_right : (x y : Option A) → or_else x y ≡ None → y ≡ None
  or_none_right None y e = e
  or_none_right (Some x) y e = let z : ◌≡◌ {A = ℕ} 0 1 = cc in absurd (omega arith)

  pub first_none : (f : ℕ → Option A) (n : ℕ) → first f n ≡ None → (k : ℕ) → k < n → f k ≡ None
  unfolding first
  first_none f zero e k h = absurd (not-suc-le-zero h)
  first_none f (suc n) e k h =
      ⊎_elim (λ q. rw q (or_none_right (first f n) (f n) e)) (λ l. first_none f n (or_none_left (first f n) (f n) e) k l)
      (eq-or-lt_of_le (le_of_suc-le-suc h))

  pub if_none : (b : Bool) (x : A) → some_if b x ≡ None → b ≡ false
  if_none true x e = let z : ◌≡◌ {A = ℕ} 0 1 = cc in absurd (omega arith)
  if_none false x e = refl

module _ (p : ℕ → Bool) where
  pub place_none : (n : ℕ) → first_place p n ≡ None → (k : ℕ) → k < n → p k ≡ false
  unfolding first_place
  place_none zero e k h = absurd (not-suc-le-zero h)
  place_none (suc n) e k h =
      ⊎_elim (λ q. rw q (if_none (p n) n (or_none_right (first_place p n) (some_if (p n) n) e)))
      (λ l. place_none n (or_none_left (first_place p n) (some_if (p n) n) e) k l) (eq-or-lt_of_le (le_of_suc-le-suc h))

  -- what holds at one place below n only is found there
  pub place_only : (n k : ℕ) → k < n → p k ≡ true → ((j : ℕ) → j < n → p j ≡ true → j ≡ k) → first_place p n ≡ Some k
  place_only n k l e h = go (first_place p n) refl
    where
      go : (x : Option ℕ) → first_place p n ≡ x → first_place p n ≡ Some k
      go None q = absurd (true≢false (sym e ∙ place_none n q k l))
      go (Some j) q = let f = found_at p n j q in q ∙ ap Some (h j f.0 f.1)

-- ---- before the place that was found

module _ (p : ℕ → Bool) where
  found_on : (j m d : ℕ) → first_place p j ≡ Some m → first_place p (j + d) ≡ Some m
  unfolding first_place
  found_on j m zero f = rw (add-zero j) f
  found_on j m (suc d) f = rw (add-suc j d, found_on j m d f)

  pub none_before : (n j : ℕ) → first_place p n ≡ Some j → (i : ℕ) → i < j → p i ≡ false
  none_before n j e i l = go (first_place p j) refl
    where
      go : (x : Option ℕ) → first_place p j ≡ x → p i ≡ false
      go None f = place_none p j f i l
      go (Some m) f =
          let h = found_at p n j e in
          let g = found_at p j m f in
          let s : j + (n - j) ≡ n = omega (arith, h.0) in
          let z : j ≡ m = some_is (sym e ∙ sym (ap (first_place p) s) ∙ found_on j m (n - j) f) in
          absurd (omega (arith, g.0))

-- ---- searches that agree

module _ (p q : ℕ → Bool) where
  pub any_same : (n : ℕ) → ((k : ℕ) → k < n → p k ≡ q k) → any_below p n ≡ any_below q n
  unfolding any_below
  any_same zero h = refl
  any_same (suc n) h = ap₂ ◌||◌ (any_same n (λ k l. h k (omega arith))) (h n (omega arith))

  pub place_same : (n : ℕ) → ((k : ℕ) → k < n → p k ≡ q k) → first_place p n ≡ first_place q n
  unfolding first_place
  place_same zero h = refl
  place_same (suc n) h = ap₂ or_else (place_same n (λ k l. h k (omega arith))) (ap (λ b. some_if b n) (h n (omega arith)))

  either_at : (a b x y : Bool) → ((a || b) || (x || y)) ≡ ((a || x) || (b || y))
  either_at true b x y = refl
  either_at false true true y = refl
  either_at false true false y = refl
  either_at false false x y = refl

  -- one of two tests
  pub any_either : (n : ℕ) → any_below (λ k. p k || q k) n ≡ (any_below p n || any_below q n)
  unfolding any_below
  any_either zero = refl
  any_either (suc n) =
      ap (λ b. b || (p n || q n)) (any_either n) ∙ either_at (any_below p n) (any_below q n) (p n) (q n)
