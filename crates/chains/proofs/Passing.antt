-- Laws of a search along the places of a walk that are left. Assumes nothing.
use Prim.Native.Nat.{ℕ, ◌<◌, ◌≤◌}
use mathlib.Core.Path.{◌≡◌, refl, ap, sym, ◌∙◌}
use mathlib.Core.Bool.{Bool, true, false, ◌&&◌, ◌||◌, or-true, and-false, true≢false}
use mathlib.Core.List.{List, [], ◌∷◌, ◌++◌}
use native.Mathlib.Omega.{arith}
use native.Mathlib.Decide.{dec_lt}
use lib.Dec.{eqb}
use borrow.Author.Tests.{eq-eqb, ne_eqb}
use Rattle.std.specs.Prelude.{None, Some}
use Rattle.loops.specs.Lists.{given, keep, any_of, head, is_some, among}
use Rattle.loops.proofs.SearchLaws.{none_below}
use Rattle.chains.specs.Places.{places}
use Rattle.chains.proofs.PlaceLaws.{any_places}
use Rattle.chains.specs.inner.Along.{Means}

-- it began at l and has come to m: no place passes that it went by
pub record Passing (may : ℕ → Bool → Type 0) (l m : List ℕ) : Type 0 where
  pub within : (x : ℕ) → among x m ≡ true → among x l ≡ true
  pub same : (q : ℕ → Bool) → Means (λ k. among k l) q may → head (keep q l) ≡ head (keep q m)

among_first : (k : ℕ) (m : List ℕ) → among k (k ∷ m) ≡ true
unfolding any_of
among_first k m = rw (eq-eqb k k refl)

among_rest : (x k : ℕ) (m : List ℕ) → among x m ≡ true → among x (k ∷ m) ≡ true
unfolding any_of
among_rest x k m e = rw e (or-true (eqb x k))

kept_hit : (q : ℕ → Bool) (k : ℕ) (m : List ℕ) → q k ≡ true → head (keep q (k ∷ m)) ≡ Some k
unfolding keep
kept_hit q k m e = rw e

kept_miss : (q : ℕ → Bool) (k : ℕ) (m : List ℕ) → q k ≡ false → head (keep q (k ∷ m)) ≡ head (keep q m)
unfolding keep
kept_miss q k m e = rw e

module _ {may : ℕ → Bool → Type 0} {l m : List ℕ} where
  pub passing_start : l ≡ m → Passing may l m
  passing_start e = rw (← e) (record { within = λ x h. h; same = λ q h. refl })

  module _ {k : ℕ} {m' : List ℕ} (p : Passing may l m) (e : m ≡ k ∷ m') where
    pub passing_here : among k l ≡ true
    passing_here = p.within k (rw e (among_first k m'))

    pub passing_next : may k false → Passing may l m'
    passing_next h = record {
      within = λ x a. p.within x (rw e (among_rest x k m' a));
      same = λ q t. p.same q t ∙ ap (λ z. head (keep q z)) e ∙ kept_miss q k m' (sym (t.says k false passing_here h));
    }

    pub passing_hit : (q : ℕ → Bool) → Means (λ x. among x l) q may → may k true → Some k ≡ head (keep q l)
    passing_hit q t h = sym (p.same q t ∙ ap (λ z. head (keep q z)) e ∙ kept_hit q k m' (sym (t.says k true passing_here h)))

  pub passing_end : Passing may l m → m ≡ [] → (q : ℕ → Bool) → Means (λ x. among x l) q may → None ≡ head (keep q l)
  unfolding keep
  passing_end p e q t = sym (p.same q t ∙ ap (λ z. head (keep q z)) e)

-- whether any passes
pub passing_any : (q : ℕ → Bool) (l : List ℕ) → is_some (head (keep q l)) ≡ any_of q l
unfolding keep any_of
passing_any q [] = refl
passing_any q (k ∷ l) = go (q k) (passing_any q l)
  where
    go : (b : Bool) → is_some (head (keep q l)) ≡ any_of q l → is_some (head (given b k ++ keep q l)) ≡ (b || any_of q l)
    go true e = refl
    go false e = e

-- a place of a chain's walk is below its end
pub among_below : (p : ℕ → Bool) (n x : ℕ) {l : List ℕ} → l ≡ places p n → among x l ≡ true → x < n
among_below p n x e a = go (dec_lt x n)
  where
    none : (k : ℕ) → n ≤ x → k < n → (p k && eqb x k) ≡ false
    none k h l = rw (ne_eqb x k (λ z. omega arith)) (and-false (p k))

    go : Dec (x < n) → x < n
    go (yes h) = h
    go (no h) = absurd (true≢false (sym (rw e at a) ∙ any_places p (eqb x) n ∙ none_below (λ k. p k && eqb x k) n (λ k l. none k (omega arith) l)))
