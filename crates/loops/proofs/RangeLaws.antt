-- Laws of `fold` and `collect`, as a loop that counts up goes through them: its start, its turn, its end. Assumes nothing.
use Prim.Native.Nat.{ℕ, zero, suc, ◌+◌, ◌*◌, ◌≤◌, ◌<◌}
use mathlib.Core.Path.{◌≡◌, refl, ap, ap₂, sym, ◌∙◌}
use mathlib.Core.List.{List, [], ◌++◌, append-nil, append_assoc}
use native.Mathlib.Numerals.{add-one}
use native.Mathlib.Nat.{le_antisymm}
use native.Mathlib.Omega.{arith}
use lib.ListN.{length, length-append}
use Rattle.loops.specs.Range.{fold, collect}

module _ {A : Type 0} (f : ℕ → List A) where
  pub collect_zero : collect f 0 ≡ []
  unfolding collect
  collect_zero = refl

  pub collect_step : (i : ℕ) → collect f (i + 1) ≡ collect f i ++ f i
  unfolding collect
  collect_step i = rw add-one

  -- from its first place on
  pub collect_front : (n : ℕ) → collect f (suc n) ≡ f 0 ++ collect (λ k. f (suc k)) n
  unfolding collect
  collect_front zero = sym (append-nil (f 0))
  collect_front (suc n) = ap (λ l. l ++ f (suc n)) (collect_front n) ∙ append_assoc (f 0) (collect (λ k. f (suc k)) n) (f (suc n))

  pub collect_done : (i n N : ℕ) → i ≤ n → n ≤ i → n ≡ N → collect f i ≡ collect f N
  collect_done i n N h k q = ap (collect f) (le_antisymm h k ∙ q)

-- a sum that grows by at most g a turn
pub fold_grows : (f : ℕ → ℕ → ℕ) (b g : ℕ) → ((a k : ℕ) → f a k ≤ a + g) → (n : ℕ) → fold f b n ≤ b + g * n
unfolding fold
fold_grows f b g h zero = omega arith
fold_grows f b g h (suc n) = omega (arith, h (fold f b n) n, fold_grows f b g h n)

-- ---- two ranges, turn by turn

fold_rel_at : {A B : Type 0} (R : A → B → Type 0) (f : A → ℕ → A) (g : B → ℕ → B) (a : A) (b : B) (n m : ℕ) → m ≤ n → R a b
    → ((x : A) (y : B) (k : ℕ) → k < n → R x y → R (f x k) (g y k)) → R (fold f a m) (fold g b m)
unfolding fold
fold_rel_at R f g a b n zero l r h = r
fold_rel_at R f g a b n (suc m) l r h = h (fold f a m) (fold g b m) m (omega arith) (fold_rel_at R f g a b n m (omega arith) r h)

-- what holds at the start and is kept by each turn holds of the two ends
pub fold_rel : {A B : Type 0} (R : A → B → Type 0) (f : A → ℕ → A) (g : B → ℕ → B) (a : A) (b : B) (n : ℕ) → R a b
    → ((x : A) (y : B) (k : ℕ) → k < n → R x y → R (f x k) (g y k)) → R (fold f a n) (fold g b n)
fold_rel R f g a b n r h = fold_rel_at R f g a b n n (omega arith) r h

collect_ext_at : {A : Type 0} (f g : ℕ → List A) (n m : ℕ) → m ≤ n → ((k : ℕ) → k < n → f k ≡ g k) → collect f m ≡ collect g m
unfolding collect
collect_ext_at f g n zero l h = refl
collect_ext_at f g n (suc m) l h = ap₂ ◌++◌ (collect_ext_at f g n m (omega arith) h) (h m (omega arith))

-- two collections that agree at each place
pub collect_ext : {A : Type 0} (f g : ℕ → List A) (n : ℕ) → ((k : ℕ) → k < n → f k ≡ g k) → collect f n ≡ collect g n
collect_ext f g n h = collect_ext_at f g n n (omega arith) h

-- two steps that agree everywhere
pub fold_ext : {B : Type 0} (f g : B → ℕ → B) (b : B) (n : ℕ) → ((e : B) (k : ℕ) → f e k ≡ g e k) → fold f b n ≡ fold g b n
unfolding fold
fold_ext f g b zero h = refl
fold_ext f g b (suc n) h = h (fold f b n) n ∙ ap (λ e. g e n) (fold_ext f g b n h)

-- two collections that have at most one element from each place between them
pub one_a_place : {A B : Type 0} (f : ℕ → List A) (g : ℕ → List B) → ((k : ℕ) → length (f k) + length (g k) ≤ 1) → (n : ℕ)
    → length (collect f n) + length (collect g n) ≤ n
unfolding collect
one_a_place f g h zero = omega arith
one_a_place f g h (suc n) = simp length-append (omega (arith, h n, one_a_place f g h n))
