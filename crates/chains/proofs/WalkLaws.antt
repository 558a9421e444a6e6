-- Methods of iterators over a walk along a chain: what they make of the list of its places. Assumes nothing.
use Prim.Native.Nat.{ℕ, zero, suc, ◌-◌, ◌<◌, ◌≤◌}
use mathlib.Core.Path.{◌≡◌, refl, ap, subst, sym, ◌∙◌}
use mathlib.Core.Bool.{Bool, true, false}
use mathlib.Core.List.{List, [], ◌∷◌}
use denote.Param.Members.{Mut, Called}
use lib.ListN.{length}
use native.Mathlib.Omega.{arith}
use Rattle.std.specs.Prelude.{Option, None, Some, slice_get}
use Rattle.std.specs.Borrow.{Bor}
use Rattle.std.specs.Fn.{CalledAt, Takes}
use Rattle.std.specs.Option.{MatchOption, IfSome}
use Rattle.std.specs.List.{FoldsTo}
use Rattle.std.specs.Iterator.{Yields, YieldsFirst, YieldsThen, CallableWhile, ChecksAny, FindsItem, SkipsThenYields}
use Rattle.loops.specs.Lists.{keep, any_of, head, is_some}
use Rattle.loops.specs.Search.{first_place, any_below}
use Rattle.loops.proofs.OrderedLaws.{none_some}
use Rattle.chains.specs.Places.{places}
use Rattle.chains.specs.inner.Left.{Left}
use Rattle.chains.proofs.PlaceLaws.{left_all, next_none, next_some, any_first}

-- the steps of a walk
abbrev pub taken : List ℕ → Option ℕ → List ℕ → Type 0
taken = YieldsFirst (λ rest. rest)

-- a closure that answers q and stays as it was
abbrev pub Answers : {F R : Type 0} → Mut F (ℕ × Unit {0}) R → F → (ℕ → R) → Type 0
Answers {F} {R} g f q = (x : ℕ) (r : R) (f' : F) → Called g f (x, tt) r f' → (f' ≡ f) × (r ≡ q x)

module _ {F : Type 0} (g : Mut F (ℕ × Unit {0}) Bool) (f : F) (q : ℕ → Bool) (a : Answers g f q) where
  any_ran : (r : Bool) (s xs u : List ℕ) (o : Option ℕ) (f₁ f' : F) → f₁ ≡ f → YieldsThen taken s xs o u → FoldsTo (λ p x h. Called g p (x, tt) false h) f₁ xs f'
      → MatchOption o (r ≡ false) (λ x. (r ≡ true) × ((h : F) × Called g f' (x, tt) true h)) → r ≡ any_of q s
  unfolding any_of
  any_ran r s [] u None f₁ f' e y c m = rw (y.1 ∙ y.2.0) m
  any_ran r s [] u (Some x) f₁ f' e y c m =
      let k : Called g f (x, tt) true m.1.0 = subst (λ h. Called g h (x, tt) true m.1.0) (sym c ∙ e) m.1.1 in
      rw (y.1 ∙ y.2, ← (a x true m.1.0 k).1) m.0
  any_ran r s (x ∷ xs) u o f₁ f' e y c m =
      let k : Called g f (x, tt) false c.0 = subst (λ h. Called g h (x, tt) false c.0) e c.1 in
      let b = a x false c.0 k in
      rw (y.1.1, ← b.1) (any_ran r y.1.0 xs u o c.0 f' b.0 (y.0, y.1.2, y.2) c.2 m)

  pub walk_any : {r : Bool} {s u : List ℕ} → ChecksAny taken g s f r u → r ≡ any_of q s
  walk_any {r} {s} {u} c = any_ran r s c.0 u c.1 f c.2 refl c.3 c.4 c.5

nth_ran : (s xs u : List ℕ) (n : ℕ) (r : Option ℕ) → YieldsThen taken s xs r u → MatchOption r (length xs ≤ n) (λ _. length xs ≡ n) → r ≡ slice_get s n
nth_ran s [] u n None y m = rw (y.1 ∙ y.2.0)
nth_ran s [] u zero (Some x) y m = rw (y.1 ∙ y.2)
nth_ran s [] u (suc n) (Some x) y m = absurd (omega (arith, m))
nth_ran s (x ∷ xs) u zero None y m = absurd (omega (arith, m))
nth_ran s (x ∷ xs) u (suc n) None y m = rw y.1.1 (nth_ran y.1.0 xs u n None (y.0, y.1.2, y.2) (omega (arith, m)))
nth_ran s (x ∷ xs) u zero (Some z) y m = absurd (omega (arith, m))
nth_ran s (x ∷ xs) u (suc n) (Some z) y m = rw y.1.1 (nth_ran y.1.0 xs u n (Some z) (y.0, y.1.2, y.2) (omega (arith, m)))

-- ---- what `nth` leaves

head_get : (l : List ℕ) → head l ≡ slice_get l 0
head_get [] = refl
head_get (x ∷ l) = refl

get_none : (l : List ℕ) (n : ℕ) → None ≡ slice_get l n → None ≡ slice_get l (suc n)
get_none [] n e = refl
get_none (x ∷ []) zero e = refl
get_none (x ∷ y ∷ l) zero e = absurd (none_some e)
get_none (x ∷ l) (suc n) e = get_none l n e

left_ran : (s xs u : List ℕ) (n k : ℕ) → YieldsThen taken s xs (Some k) u → length xs ≡ n → head u ≡ slice_get s (suc n)
left_ran s [] u zero k y m = rw (y.1 ∙ y.2) (head_get u)
left_ran s [] u (suc n) k y m = absurd (omega (arith, m))
left_ran s (x ∷ xs) u zero k y m = absurd (omega (arith, m))
left_ran s (x ∷ xs) u (suc n) k y m = rw y.1.1 (left_ran y.1.0 xs u n k (y.0, y.1.2, y.2) (omega (arith, m)))

-- the place that is number n, from 0, of those that are left
pub walk_nth : {s : List ℕ} {r : Option ℕ} (n : ℕ) (u : List ℕ) → SkipsThenYields taken s n r u → r ≡ slice_get s n
walk_nth {s} {r} n u c = nth_ran s c.0 u n r c.1 c.2

-- the place that is number m is the first that is left: where none was passed,
pub walk_front : (s : List ℕ) (m : ℕ) → m ≤ 0 → head s ≡ slice_get s m
walk_front s m h = let e : 0 ≡ m = omega (arith, h) in head_get s ∙ ap (slice_get s) e

-- and where `nth` gave the one before it
pub walk_behind : {s : List ℕ} {r : Option ℕ} (m k : ℕ) (u : List ℕ) → 0 < m → SkipsThenYields taken s (m - 1) r u → r ≡ Some k → head u ≡ slice_get s m
walk_behind {s} m k u h c e =
    let n : suc (m - 1) ≡ m = omega (arith, h) in
    left_ran s c.0 u (m - 1) k (rw e at c.1) (rw e at c.2) ∙ ap (slice_get s) n

-- where it gave none, there is none
pub walk_short : {s : List ℕ} {r : Option ℕ} (m : ℕ) (u : List ℕ) → 0 < m → SkipsThenYields taken s (m - 1) r u → r ≡ None → None ≡ slice_get s m
walk_short {s} m u h c e =
    let n : suc (m - 1) ≡ m = omega (arith, h) in
    get_none s (m - 1) (sym e ∙ walk_nth (m - 1) u c) ∙ ap (slice_get s) n

module _ (p : ℕ → Bool) (n : ℕ) where
  -- the first step of a walk
  pub walk_next : (o : Option ℕ) {s : List ℕ} (u : List ℕ) → s ≡ places p n → taken s o u → o ≡ first_place p n
  walk_next None u e y = next_none p n e y.0
  walk_next (Some k) u e y = next_some p n k e y

  -- tells whether it has any
  pub walk_some : (o : Option ℕ) {s : List ℕ} (u : List ℕ) → s ≡ places p n → taken s o u → is_some o ≡ any_below p n
  walk_some o u e y = ap is_some (walk_next o u e y) ∙ any_first p n

-- a test that stays as it was may be called at each place that a walk comes to
module _ (p : ℕ → Bool) (n : ℕ) {F : Type 0} (g : Mut F (ℕ × Unit {0}) Bool) (f : F) (stays : (x : ℕ) (f' : F) → Called g f (x, tt) false f' → f' ≡ f)
    (takes : (x : ℕ) → x < n → p x ≡ true → Takes g f (x, tt)) where
  takes_at : (s t u xs : List ℕ) (x : ℕ) (f₁ f' : F) → f₁ ≡ f → Left p n s → Yields taken s xs t → FoldsTo (λ h z j. Called g h (z, tt) false j) f₁ xs f' → taken t (Some x) u
      → Takes g f' (x, tt)
  takes_at s t u [] x f₁ f' e h y c k = let l = rw (y ∙ k) at h in subst (λ j. Takes g j (x, tt)) (sym e ∙ c) (takes x l.0 l.1)
  takes_at s t u (z ∷ xs) x f₁ f' e h y c k =
      takes_at y.0 t u xs x c.0 f' (stays z c.0 (subst (λ j. Called g j (z, tt) false c.0) e c.1)) (rw y.1 at h).3 y.2 c.2 k

  pub walk_takes : {s : List ℕ} → s ≡ places p n → CallableWhile taken g false s f
  walk_takes {s} e = record { at = λ xs t h x u y c k. takes_at s t u xs x f h refl (rw e (left_all p n)) y c k }

-- what `find` gives, by a test that answers q and stays as it was
module _ {F : Type 0} (g : Mut F (Bor ℕ × Unit {0}) Bool) (f : F) (q : ℕ → Bool) (a : (x : ℕ) (r : Bool) (f' : F) → CalledAt g f x r f' → (f' ≡ f) × (r ≡ q x)) where
  find_ran : (r : Option ℕ) (s xs u : List ℕ) (f₁ f' : F) → f₁ ≡ f → YieldsThen taken s xs r u → FoldsTo (λ p x h. CalledAt g p x false h) f₁ xs f'
      → IfSome r (λ x. (h : F) × CalledAt g f' x true h) → r ≡ head (keep q s)
  unfolding keep
  find_ran None s [] u f₁ f' e y c m = rw (y.1 ∙ y.2.0) refl
  find_ran (Some x) s [] u f₁ f' e y c m =
      let b = a x true m.0 (subst (λ h. CalledAt g h x true m.0) (sym c ∙ e) m.1) in
      rw (y.1 ∙ y.2, ← b.1) refl
  find_ran r s (x ∷ xs) u f₁ f' e y c m =
      let b = a x false c.0 (subst (λ h. CalledAt g h x false c.0) e c.1) in
      rw (y.1.1, ← b.1) (find_ran r y.1.0 xs u c.0 f' b.0 (y.0, y.1.2, y.2) c.2 m)

  pub walk_find : {r : Option ℕ} {s : List ℕ} (u : List ℕ) → FindsItem taken g s f r u → r ≡ head (keep q s)
  walk_find {r} {s} u c = find_ran r s c.0 u f c.1 refl c.2 c.3 c.4
