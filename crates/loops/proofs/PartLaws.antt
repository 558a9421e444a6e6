-- What every part of a list comes to, the list comes to that is put together of them: nothing, or elements that pass a test; and what is kept of such a
-- list. Assumes nothing.
use Prim.Native.Nat.{ℕ, zero, suc}
use mathlib.Core.Path.{◌≡◌, refl, ap, ap₂, ◌∙◌}
use mathlib.Core.Bool.{Bool, true, false, ◌&&◌}
use mathlib.Core.List.{List, [], ◌∷◌, ◌++◌}
use Rattle.loops.specs.Lists.{keep, all_of, each}
use Rattle.loops.specs.Range.{collect}
use Rattle.loops.proofs.BoolLaws.{and_left, and_right}
use Rattle.loops.proofs.ListLaws.{all_append}

pub collect_nothing : {A : Type 0} (f : ℕ → List A) → ((k : ℕ) → f k ≡ []) → (n : ℕ) → collect f n ≡ []
unfolding collect
collect_nothing f h zero = refl
collect_nothing f h (suc n) = ap₂ ◌++◌ (collect_nothing f h n) (h n)

pub each_nothing : {A B : Type 0} (f : A → List B) → ((x : A) → f x ≡ []) → (l : List A) → each f l ≡ []
unfolding each
each_nothing f h [] = refl
each_nothing f h (x ∷ l) = ap₂ ◌++◌ (h x) (each_nothing f h l)

module _ {A : Type 0} (p : A → Bool) where
  pub all_both : (l m : List A) → all_of p l ≡ true → all_of p m ≡ true → all_of p (l ++ m) ≡ true
  all_both l m h k = all_append p l m ∙ ap₂ ◌&&◌ h k

  pub all_each : {B : Type 0} (f : B → List A) → ((x : B) → all_of p (f x) ≡ true) → (l : List B) → all_of p (each f l) ≡ true
  unfolding each all_of
  all_each f h [] = refl
  all_each f h (x ∷ l) = all_both (f x) (each f l) (h x) (all_each f h l)

  pub all_collect : (f : ℕ → List A) → ((k : ℕ) → all_of p (f k) ≡ true) → (n : ℕ) → all_of p (collect f n) ≡ true
  unfolding collect all_of
  all_collect f h zero = refl
  all_collect f h (suc n) = all_both (collect f n) (f n) (all_collect f h n) (h n)

  -- elements that all pass are kept
  pub keep_all : (l : List A) → all_of p l ≡ true → keep p l ≡ l
  unfolding keep all_of
  keep_all [] e = refl
  keep_all (x ∷ l) e = rw (and_left (p x) (all_of p l) e) (ap (λ z. x ∷ z) (keep_all l (and_right (p x) (all_of p l) e)))

  -- those that pass a test by which they cannot pass this one are not
  pub keep_other : (q : A → Bool) → ((x : A) → q x ≡ true → p x ≡ false) → (l : List A) → all_of q l ≡ true → keep p l ≡ []
  unfolding keep all_of
  keep_other q h [] e = refl
  keep_other q h (x ∷ l) e = rw (h x (and_left (q x) (all_of q l) e)) (keep_other q h l (and_right (q x) (all_of q l) e))
