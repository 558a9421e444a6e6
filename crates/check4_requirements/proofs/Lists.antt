-- Lists that are put together along a chain, taken apart place by place. Assumes nothing.
use Prim.Native.Nat.{ℕ, zero, suc, ◌<◌}
use mathlib.Core.Path.{◌≡◌, refl, ap, ap₂, sym, ◌∙◌}
use mathlib.Core.Bool.{Bool, true, false, cond, not, ◌&&◌, ◌||◌, or-false, or-true}
use mathlib.Core.List.{List, [], ◌∷◌, ◌++◌, map, append-nil}
use native.Mathlib.Omega.{arith}
use native.Mathlib.Decide.{ℕ_discrete}
use Rattle.loops.specs.Lists.{given, keep, any_of, all_of, each, is_empty}
use Rattle.loops.specs.Range.{collect}
use Rattle.loops.specs.Search.{any_below}
use Rattle.loops.specs.inner.Chain.{only}
use Rattle.loops.proofs.RangeLaws.{collect_ext}
use Rattle.loops.proofs.ListLaws.{each_collect, map_collect, keep_collect, any_collect, all_append}
use Rattle.loops.proofs.SearchLaws.{any_hit, none_below}
use Rattle.loops.proofs.PlaceLaws.{any_same}
use Rattle.check4_pieces.specs.inner.OfPiece.{both}

-- two lists along one chain that agree on the chain
pub only_same : {A : Type 0} (p : ℕ → Bool) (f g : ℕ → List A) (n : ℕ) → ((k : ℕ) → k < n → p k ≡ true → f k ≡ g k) → collect (only p f) n ≡ collect (only p g) n
unfolding only
only_same p f g n h = collect_ext _ _ n (λ k l. go k l (p k) refl)
  where
    go : (k : ℕ) → k < n → (b : Bool) → p k ≡ b → cond (p k) (f k) [] ≡ cond (p k) (g k) []
    go k l true e = ap (λ x. cond (p k) x []) (h k l e)
    go k l false e = rw e

-- two tests along one chain that agree on it
pub both_same : (p t u : ℕ → Bool) (n : ℕ) → ((k : ℕ) → k < n → p k ≡ true → t k ≡ u k) → any_below (both p t) n ≡ any_below (both p u) n
unfolding both
both_same p t u n h = any_same _ _ n (λ k l. go k l (p k) refl)
  where
    go : (k : ℕ) → k < n → (b : Bool) → p k ≡ b → (p k && t k) ≡ (p k && u k)
    go k l true e = ap (λ x. p k && x) (h k l e)
    go k l false e = rw e

-- nothing at any place
pub none_collect : {A : Type 0} (f : ℕ → List A) (n : ℕ) → ((k : ℕ) → k < n → f k ≡ []) → collect f n ≡ []
unfolding collect
none_collect f zero h = refl
none_collect f (suc n) h = ap₂ ◌++◌ (none_collect f n (λ k l. h k (omega arith))) (h n (omega arith))

module _ {A : Type 0} (p : ℕ → Bool) (g : ℕ → List A) (n : ℕ) where
  pub each_only : {B : Type 0} (f : A → List B) → each f (collect (only p g) n) ≡ collect (only p (λ k. each f (g k))) n
  unfolding only
  each_only f = each_collect f (only p g) n ∙ collect_ext _ _ n (λ k l. go k (p k))
    where
      go : (k : ℕ) (b : Bool) → each f (cond b (g k) []) ≡ cond b (each f (g k)) []
      go k true = refl
      go k false = unfold each in refl

  pub map_only : {B : Type 0} (f : A → B) → map f (collect (only p g) n) ≡ collect (only p (λ k. map f (g k))) n
  unfolding only
  map_only f = map_collect f (only p g) n ∙ collect_ext _ _ n (λ k l. go k (p k))
    where
      go : (k : ℕ) (b : Bool) → map f (cond b (g k) []) ≡ cond b (map f (g k)) []
      go k true = refl
      go k false = refl

  pub keep_only : (q : A → Bool) → keep q (collect (only p g) n) ≡ collect (only p (λ k. keep q (g k))) n
  unfolding only
  keep_only q = keep_collect q (only p g) n ∙ collect_ext _ _ n (λ k l. go k (p k))
    where
      go : (k : ℕ) (b : Bool) → keep q (cond b (g k) []) ≡ cond b (keep q (g k)) []
      go k true = refl
      go k false = unfold keep in refl

  pub any_only : (q : A → Bool) → any_of q (collect (only p g) n) ≡ any_below (both p (λ k. any_of q (g k))) n
  unfolding only both
  any_only q = any_collect q (only p g) n ∙ any_same _ _ n (λ k l. go k (p k))
    where
      go : (k : ℕ) (b : Bool) → any_of q (cond b (g k) []) ≡ (b && any_of q (g k))
      go k true = refl
      go k false = unfold any_of in refl

  pub all_only : (q : A → Bool) → ((k : ℕ) → k < n → p k ≡ true → all_of q (g k) ≡ true) → all_of q (collect (only p g) n) ≡ true
  unfolding collect all_of only
  all_only q h = go n (λ k l. h k l)
    where
      at : (k : ℕ) (b : Bool) → p k ≡ b → (p k ≡ true → all_of q (g k) ≡ true) → all_of q (cond b (g k) []) ≡ true
      at k true e r = r e
      at k false e r = refl

      go : (m : ℕ) → ((k : ℕ) → k < m → p k ≡ true → all_of q (g k) ≡ true) → all_of q (collect (only p g) m) ≡ true
      go zero r = refl
      go (suc m) r = all_append q (collect (only p g) m) (only p g m) ∙ ap₂ ◌&&◌ (go m (λ k l. r k (omega arith))) (at m (p m) refl (r m (omega arith)))

-- ---- lists of at most one

module _ {A : Type 0} (b : Bool) (x : A) where
  pub given_keep : (q : A → Bool) → keep q (given b x) ≡ given (b && q x) x
  unfolding keep
  given_keep q = go b
    where
      go : (b : Bool) → keep q (given b x) ≡ given (b && q x) x
      go true = append-nil (given (q x) x)
      go false = refl

  pub given_any : (q : A → Bool) → any_of q (given b x) ≡ (b && q x)
  unfolding any_of
  given_any q = go b
    where
      go : (b : Bool) → any_of q (given b x) ≡ (b && q x)
      go true = or-false (q x)
      go false = refl

  pub given_each : {B : Type 0} (f : A → List B) → each f (given b x) ≡ cond b (f x) []
  unfolding each
  given_each f = go b
    where
      go : (b : Bool) → each f (given b x) ≡ cond b (f x) []
      go true = append-nil (f x)
      go false = refl

  pub given_map : {B : Type 0} (f : A → B) → map f (given b x) ≡ given b (f x)
  given_map f = go b
    where
      go : (b : Bool) → map f (given b x) ≡ given b (f x)
      go true = refl
      go false = refl

-- ---- searches

-- a test that holds at one place only, if at all
pub any_at : (t : ℕ → Bool) (n a : ℕ) → a < n → ((k : ℕ) → k < n → (k ≡ a → ⊥) → t k ≡ false) → any_below t n ≡ t a
any_at t n a l h = go (t a) refl
  where
    go : (b : Bool) → t a ≡ b → any_below t n ≡ b
    go true e = sym (any_hit t a n n l refl e)
    go false e = none_below t n (λ k m. at k m (ℕ_discrete k a))
      where
        at : (k : ℕ) → k < n → Dec (k ≡ a) → t k ≡ false
        at k m (yes z) = ap t z ∙ e
        at k m (no z) = h k m z

-- nothing along a chain that has no place
pub empty_only : {A : Type 0} (p : ℕ → Bool) (y : ℕ → A) (n : ℕ) → is_empty (collect (only p (λ k. y k ∷ [])) n) ≡ not (any_below p n)
unfolding collect any_below only
empty_only {A} p y zero = refl
empty_only {A} p y (suc n) = go (collect (λ k. cond (p k) (y k ∷ []) []) n) (p n) (any_below p n) (empty_only p y n)
  where
    go : (l : List A) (b c : Bool) → is_empty l ≡ not c → is_empty (l ++ cond b (y n ∷ []) []) ≡ not (c || b)
    go [] true c e = sym (ap not (or-true c))
    go [] false c e = e ∙ ap not (sym (or-false c))
    go (x ∷ l) b true e = refl
    go (x ∷ l) b false e = absurd (let z : ◌≡◌ {A = ℕ} 0 1 = cc in omega arith)
