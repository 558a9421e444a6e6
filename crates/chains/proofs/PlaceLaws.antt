-- Laws of `places`: how a walk along a chain goes through them, and what list functions make of them. Assumes nothing.
use Prim.Native.Nat.{ℕ, zero, suc, ◌+◌, ◌<◌, ◌≤◌}
use mathlib.Core.Path.{◌≡◌, refl, ap, ap₂, subst, sym, ◌∙◌}
use mathlib.Core.Bool.{Bool, true, false, ◌&&◌, cond, ◌||◌, or-false}
use mathlib.Core.List.{List, [], ◌∷◌, ◌++◌, append-nil, foldl}
use native.Mathlib.Omega.{arith}
use native.Mathlib.Decide.{dec_lt}
use lib.ListN.{length, length-append}
use borrow.Author.Tests.{le-leb, lt-leb}
use Rattle.std.specs.Prelude.{Option, None, Some}
use Rattle.loops.specs.Lists.{given, keep, each, any_of, head, is_some}
use Rattle.loops.specs.Range.{fold, collect}
use Rattle.loops.specs.Search.{any_below, first, first_place, or_else, some_if}
use Rattle.loops.specs.inner.Chain.{First, Stands, Silent, Quiet, Blind, only_at, only}
use Rattle.loops.proofs.RangeLaws.{collect_ext, fold_ext}
use Rattle.loops.proofs.ListLaws.{keep_collect, each_collect, foldl_collect, any_collect, head_collect, head_given}
use Rattle.loops.proofs.SearchLaws.{place_first}
use Rattle.chains.specs.Places.{places}
use Rattle.chains.specs.inner.Left.{from, front, Left}

pub places_none : (p : ℕ → Bool) (n : ℕ) → ((k : ℕ) → k < n → p k ≡ false) → places p n ≡ []
unfolding places collect
places_none p zero h = refl
places_none p (suc n) h = ap₂ ◌++◌ (places_none p n (λ k l. h k (omega arith))) (ap (λ b. given b n) (h n (omega arith)))

-- the same test, the same places
pub places_ext : (p q : ℕ → Bool) (n : ℕ) → ((k : ℕ) → k < n → p k ≡ q k) → places p n ≡ places q n
unfolding places
places_ext p q n h = collect_ext _ _ n (λ k l. ap (λ b. given b k) (h k l))

from_on : (p : ℕ → Bool) (i k : ℕ) → i ≤ k → from i p k ≡ p k
unfolding from
from_on p i k h = rw (le-leb i k h)

from_before : (p : ℕ → Bool) (i k : ℕ) → k < i → from i p k ≡ false
unfolding from
from_before p i k h = rw (lt-leb i k h)

pub places_cons : (p : ℕ → Bool) (n j : ℕ) → j < n → p j ≡ true → ((k : ℕ) → k < j → p k ≡ false) → places p n ≡ j ∷ places (from (suc j) p) n
unfolding places collect
places_cons p zero j l t h = absurd (omega arith)
places_cons p (suc n) j l t h = go (λ a. places_cons p n j a t h) (dec_lt j n)
  where
    go : (j < n → places p n ≡ j ∷ places (from (suc j) p) n) → Dec (j < n) → places p n ++ given (p n) n ≡ j ∷ (places (from (suc j) p) n ++ given (from (suc j) p n) n)
    go r (yes a) = ap₂ ◌++◌ (r a) (ap (λ b. given b n) (sym (from_on p (suc j) n (omega arith))))
    go r (no a) =
        let e : j ≡ n = omega arith in
        ap₂ ◌++◌ (places_none p n (λ k b. h k (omega arith))) (ap (λ b. given b n) (sym (ap p e) ∙ t) ∙ ap (λ k. k ∷ []) (sym e))
        ∙ ap (λ m. j ∷ m) (sym (places_none (from (suc j) p) (suc n) (λ k b. from_before p (suc j) k (omega arith))))

-- ---- a walk along a chain

pub places_here : (p : ℕ → Bool) (n j : ℕ) → p j ≡ true → j < n → places (from j p) n ≡ j ∷ places (from (suc j) p) n
places_here p n j t l =
    places_cons (from j p) n j l (from_on p j j (omega arith) ∙ t) (λ k a. from_before p j k a)
    ∙ ap (λ m. j ∷ m) (places_ext _ _ n (λ k a. go k (dec_lt j k)))
  where
    go : (k : ℕ) → Dec (j < k) → from (suc j) (from j p) k ≡ from (suc j) p k
    go k (yes a) = from_on (from j p) (suc j) k (omega arith) ∙ from_on p j k (omega arith) ∙ sym (from_on p (suc j) k (omega arith))
    go k (no a) = from_before (from j p) (suc j) k (omega arith) ∙ sym (from_before p (suc j) k (omega arith))

-- a chain goes to N; of its places those below n are listed
module _ (p : ℕ → Bool) (n : ℕ) {N : ℕ} where
  -- from one place to the next
  pub places_next : {i j : ℕ} → First p (suc i) N j → places (from (suc i) p) n ≡ places (from j p) n
  places_next {i} {j} f = places_ext _ _ n (λ k l. go k (dec_lt k j) (dec_lt i k))
    where
      go : (k : ℕ) → Dec (k < j) → Dec (i < k) → from (suc i) p k ≡ from j p k
      go k (yes a) (yes b) = from_on p (suc i) k (omega arith) ∙ f.none k (omega arith) a ∙ sym (from_before p j k a)
      go k (yes a) (no b) = from_before p (suc i) k (omega arith) ∙ sym (from_before p j k a)
      go k (no a) b = from_on p (suc i) k (omega (arith, f.low)) ∙ sym (from_on p j k (omega arith))

  pub places_start : {j : ℕ} → First p 0 N j → places p n ≡ places (from j p) n
  places_start {j} f = places_ext _ _ n (λ k l. go k (dec_lt k j))
    where
      go : (k : ℕ) → Dec (k < j) → p k ≡ from j p k
      go k (yes a) = f.none k (omega arith) a ∙ sym (from_before p j k a)
      go k (no a) = sym (from_on p j k (omega arith))

  pub places_turn : {j m : ℕ} → n ≤ N → Stands p N j → j < n → First p (suc j) N m → places (from j p) n ≡ j ∷ places (from m p) n
  places_turn {j} {m} h s l f = places_here p n j (s.here (omega arith)) l ∙ ap (λ x. j ∷ x) (places_next f)

pub places_end : (p : ℕ → Bool) (n j : ℕ) → n ≤ j → places (from j p) n ≡ []
places_end p n j l = places_none (from j p) n (λ k a. from_before p j k (omega arith))

places_skip : (p : ℕ → Bool) (n i : ℕ) → p i ≡ false → places (from i p) n ≡ places (from (suc i) p) n
places_skip p n i t = places_ext _ _ n (λ k l. go k (dec_lt k i) (dec_lt i k))
  where
    go : (k : ℕ) → Dec (k < i) → Dec (i < k) → from i p k ≡ from (suc i) p k
    go k (yes a) b = from_before p i k a ∙ sym (from_before p (suc i) k (omega arith))
    go k (no a) (yes b) = from_on p i k (omega arith) ∙ sym (from_on p (suc i) k (omega arith))
    go k (no a) (no b) =
        let e : k ≡ i = omega arith in
        from_on p i k (omega arith) ∙ ap p e ∙ t ∙ sym (from_before p (suc i) k (omega arith))

-- ---- what a loop knows of the places that are left

Known : (ℕ → Bool) → ℕ → ℕ → List ℕ → Type 0
Known p n i l = First p i n (front n l) × Left p n l

skipped : (p : ℕ → Bool) (n i : ℕ) {f : ℕ} → p i ≡ false → First p (suc i) n f → First p i n f
skipped p n i {f} t m = record { low = omega (arith, m.low); high = m.high; none = λ k a b. go k a b (dec_lt i k); here = m.here }
  where
    go : (k : ℕ) → i ≤ k → k < f → Dec (i < k) → p k ≡ false
    go k a b (yes c) = m.none k (omega arith) b
    go k a b (no c) = let e : k ≡ i = omega arith in rw e t

module _ (p : ℕ → Bool) (n : ℕ) where
  known : (d i : ℕ) → i + d ≡ n → Known p n i (places (from i p) n)
  unfolding Known
  known zero i e =
      rw (places_end p n i (omega arith))
      (record { low = omega arith; high = omega arith; none = λ k a b. absurd (omega arith); here = λ a. absurd (omega arith) }, tt)
  known (suc d) i e = go (known d (suc i) (omega arith)) (p i) refl
    where
      go : Known p n (suc i) (places (from (suc i) p) n) → (b : Bool) → p i ≡ b → Known p n i (places (from i p) n)
      go more true t =
          rw (places_here p n i t (omega arith)) (
            record { low = omega arith; high = omega arith; none = λ k a b. absurd (omega arith); here = λ a. t },
            (omega arith, t, more.0, more.1),
          )
      go more false t =
          rw (places_skip p n i t) (skipped p n i t more.0, more.1)

  known_all : Known p n 0 (places p n)
  known_all = rw (places_ext p (from 0 p) n (λ k l. sym (from_on p 0 k (omega arith)))) (known n 0 (omega arith))

  pub left_all : Left p n (places p n)
  unfolding Known
  left_all = known_all.1

-- ---- what list functions make of them

-- f of each, where f gives nothing at any other place
pub each_places : {A : Type 0} (p : ℕ → Bool) (f : ℕ → List A) (n : ℕ) → Silent p f → each f (places p n) ≡ collect f n
unfolding places each
each_places p f n s = each_collect f (λ k. given (p k) k) n ∙ collect_ext _ _ n (λ k l. go k (p k) refl)
  where
    go : (k : ℕ) (b : Bool) → p k ≡ b → each f (given (p k) k) ≡ f k
    go k true t = rw t (append-nil (f k))
    go k false t = rw t (sym (s.still k t))

-- a value that is worked out along them
pub foldl_places : {B : Type 0} (p : ℕ → Bool) (f : B → ℕ → B) (b : B) (n : ℕ) → Quiet p f → foldl f b (places p n) ≡ fold f b n
unfolding places
foldl_places {B = B} p f b n s = foldl_collect f b (λ k. given (p k) k) n ∙ fold_ext _ _ b n (λ e k. go e k (p k) refl)
  where
    go : (e : B) (k : ℕ) (c : Bool) → p k ≡ c → foldl f e (given (p k) k) ≡ f e k
    go e k true t = rw t refl
    go e k false t = rw t (sym (s.still e k t))

-- the same of a step that is taken there alone
pub foldl_only : {B : Type 0} (p : ℕ → Bool) (f : B → ℕ → B) (b : B) (n : ℕ) → foldl f b (places p n) ≡ fold (only_at p f) b n
unfolding places only_at
foldl_only {B = B} p f b n = foldl_collect f b (λ k. given (p k) k) n ∙ fold_ext _ _ b n (λ e k. go e k (p k))
  where
    go : (e : B) (k : ℕ) (c : Bool) → foldl f e (given c k) ≡ cond c (f e k) e
    go e k true = refl
    go e k false = refl

any_ext : (p q : ℕ → Bool) (n : ℕ) → ((k : ℕ) → p k ≡ q k) → any_below p n ≡ any_below q n
unfolding any_below
any_ext p q zero h = refl
any_ext p q (suc n) h = ap₂ ◌||◌ (any_ext p q n h) (h n)

-- a test of each
pub any_places : (p q : ℕ → Bool) (n : ℕ) → any_of q (places p n) ≡ any_below (λ k. p k && q k) n
unfolding places any_of
any_places p q n = any_collect q (λ k. given (p k) k) n ∙ any_ext _ _ n (λ k. go k (p k))
  where
    go : (k : ℕ) (b : Bool) → any_of q (given b k) ≡ (b && q k)
    go k true = or-false (q k)
    go k false = refl

-- ---- what an iterator along them knows of its next place

module _ (p : ℕ → Bool) (n : ℕ) {k : ℕ} {l l' : List ℕ} (e : l ≡ k ∷ l') (h : Left p n l) where
  known_of : Left p n (k ∷ l')
  known_of = subst (Left p n) e h

  pub left_below : k < n
  left_below = known_of.0

  pub left_here : p k ≡ true
  left_here = known_of.1

  pub left_first : First p (suc k) n (front n l')
  left_first = known_of.2

  pub left_next : Left p n l'
  left_next = known_of.3

module _ (p : ℕ → Bool) (n : ℕ) {l m : List ℕ} (e : l ≡ m) (h : m ≡ places p n) where
  pub left_start : Left p n l
  left_start = subst (Left p n) (sym (e ∙ h)) (left_all p n)

  pub front_start : First p 0 n (front n l)
  unfolding Known
  front_start = subst (λ x. First p 0 n (front n x)) (sym (e ∙ h)) (known_all p n).0

pub places_few : (p : ℕ → Bool) (n : ℕ) → length (places p n) ≤ n
unfolding places collect
places_few p zero = omega arith
places_few p (suc n) = go (p n) (places_few p n)
  where
    go : (b : Bool) → length (places p n) ≤ n → length (places p n ++ given b n) ≤ suc n
    go true h = simp length-append (omega (arith, h))
    go false h = simp length-append (omega (arith, h))

-- so that a loop along them takes no more turns
pub left_few : (p : ℕ → Bool) (n : ℕ) {l m : List ℕ} → l ≡ m → m ≡ places p n → length l ≤ n
left_few p n e h = subst (λ x. length x ≤ n) (sym (e ∙ h)) (places_few p n)

-- what was kept of a turn and what is left are no more than before
pub kept_few : {A : Type 0} (N : ℕ) {k : ℕ} {l l' : List ℕ} (b : A) (bs : List A) {bs' : List A} → l ≡ k ∷ l' → bs' ≡ bs ++ b ∷ [] → length bs + length l ≤ N → length bs' + length l' ≤ N
kept_few N {k} {l} {l'} b bs e q h =
    let x : length bs + suc (length l') ≤ N = subst (λ y. length bs + length y ≤ N) e h in
    rw q (simp length-append (omega (arith, x)))

-- ---- the first of them

first_ext : {A : Type 0} (f g : ℕ → Option A) (n : ℕ) → ((k : ℕ) → f k ≡ g k) → first f n ≡ first g n
unfolding first
first_ext f g zero h = refl
first_ext f g (suc n) h = ap₂ or_else (first_ext f g n h) (h n)

pub head_places : (p : ℕ → Bool) (n : ℕ) → head (places p n) ≡ first_place p n
unfolding places
head_places p n = head_collect (λ k. given (p k) k) n ∙ first_ext _ _ n (λ k. head_given (p k) k) ∙ sym (place_first p n)

-- what `next` gives of a walk that begins
pub next_none : (p : ℕ → Bool) (n : ℕ) {l : List ℕ} → l ≡ places p n → l ≡ [] → None ≡ first_place p n
next_none p n e h = sym (ap head h) ∙ ap head e ∙ head_places p n

pub next_some : (p : ℕ → Bool) (n k : ℕ) {l l' : List ℕ} → l ≡ places p n → l ≡ k ∷ l' → Some k ≡ first_place p n
next_some p n k e h = sym (ap head h) ∙ ap head e ∙ head_places p n

-- f of each, and nothing of any other place
pub each_only : {A : Type 0} (p : ℕ → Bool) (f : ℕ → List A) (n : ℕ) → each f (places p n) ≡ collect (only p f) n
unfolding places each only
each_only p f n = each_collect f (λ k. given (p k) k) n ∙ collect_ext _ _ n (λ k l. go k (p k))
  where
    go : (k : ℕ) (b : Bool) → each f (given b k) ≡ cond b (f k) []
    go k true = append-nil (f k)
    go k false = refl

-- the places that pass one test more
pub keep_places : (p q : ℕ → Bool) (n : ℕ) → keep q (places p n) ≡ places (λ k. p k && q k) n
unfolding places keep
keep_places p q n = keep_collect q (λ k. given (p k) k) n ∙ collect_ext _ _ n (λ k l. go k (p k))
  where
    go : (k : ℕ) (b : Bool) → keep q (given b k) ≡ given (b && q k) k
    go k true = append-nil (given (q k) k)
    go k false = refl

-- ---- a test that fails where the chain's does: a walk comes to all that pass it

both_blind : {p q : ℕ → Bool} → Blind p q → (k : ℕ) → (p k && q k) ≡ q k
both_blind {p} {q} h k = go (p k) refl
  where
    go : (b : Bool) → p k ≡ b → (p k && q k) ≡ q k
    go true t = rw t
    go false t = rw (t, h.still k t)

-- the first that passes it
pub first_kept : {p : ℕ → Bool} (q : ℕ → Bool) (n : ℕ) → Blind p q → head (keep q (places p n)) ≡ first_place q n
first_kept {p} q n h = ap head (keep_places p q n ∙ places_ext _ _ n (λ k l. both_blind h k)) ∙ head_places q n

-- whether any does
pub any_blind : {p : ℕ → Bool} (q : ℕ → Bool) (n : ℕ) → Blind p q → any_of q (places p n) ≡ any_below q n
any_blind {p} q n h = any_places p q n ∙ any_ext _ _ n (both_blind h)

-- whether there is a place at all
pub any_first : (p : ℕ → Bool) (n : ℕ) → is_some (first_place p n) ≡ any_below p n
unfolding first_place any_below
any_first p zero = refl
any_first p (suc n) = go (first_place p n) (p n) ∙ ap (λ b. b || p n) (any_first p n)
  where
    go : (x : Option ℕ) (b : Bool) → is_some (or_else x (some_if b n)) ≡ (is_some x || b)
    go None true = refl
    go None false = refl
    go (Some k) b = refl
