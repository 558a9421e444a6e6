-- Laws of numbers with their units, and what may follow them, cut at 4,000,000,001. Assumes nothing.
use Prim.Native.Nat.{ℕ, ◌+◌, ◌*◌, ◌<◌}
use mathlib.Core.List.{List, [], ◌∷◌}
use Rattle.std.specs.Prelude.{Option, None, Some, option_map}
use Rattle.std.proofs.lemmas.Option.{none-some, same_Some}
use mathlib.Core.Path.{◌≡◌, refl, sym, ap, ◌∙◌}
use native.Mathlib.Omega.{arith}
use lib.ListN.{length}
use borrow.Author.Rules.{rules}
use borrow.Author.Tests.{eq-eqb, ne_eqb}
use Rattle.freebusy_periods.specs.Duration.{Counted, counts, counted, then_maybe, amount, nothing_more}
use Rattle.freebusy_periods.specs.inner.Capped.{at_most, capped_count, counted_by, capped, added}
use Rattle.freebusy_periods.specs.declared.Amount.{Amount}
use Rattle.freebusy_periods.proofs.CapLaws.{Alike, alike_cut, alike_same, alike_times, alike_plus, alike_itself, added_alike}

-- ---- what may follow n seconds

then_alike : (next : List ℕ → Option ℕ) (m n : ℕ) (r : List ℕ) → Alike m n → capped (then_maybe next m r) ≡ capped (then_maybe next n r)
unfolding capped then_maybe added
then_alike next m n [] h = ap (λ (k : ℕ). Some k) (alike_same m n h)
then_alike next m n (x ∷ r) h = go (next (x ∷ r))
  where
    go : (o : Option ℕ) → capped (added m o) ≡ capped (added n o)
    go None = refl
    go (Some k) = ap (λ (j : ℕ). Some j) (alike_same (m + k) (n + k) (alike_plus m n k k h (alike_itself k)))

module _ (next : List ℕ → Option ℕ) (n : ℕ) (s : List ℕ) where
  pub then_last : {k : ℕ} → length s ≡ 0 → k ≡ at_most n → Some k ≡ capped (then_maybe next n s)
  unfolding capped then_maybe
  then_last {k} h e = go s h
    where
      go : (s : List ℕ) → length s ≡ 0 → Some k ≡ capped (then_maybe next n s)
      go [] h = ap (λ (j : ℕ). Some j) e
      go (x ∷ s) h = absurd (omega arith)

  -- `next` gives nothing, or m seconds more
  pub then_less : {a b : Option ℕ} → (length s ≡ 0 → ⊥) → b ≡ capped (next s) → b ≡ None → a ≡ None → a ≡ capped (then_maybe next n s)
  unfolding capped then_maybe added
  then_less {a} {b} h f z q = q ∙ go s h (sym z ∙ f)
    where
      go : (s : List ℕ) → (length s ≡ 0 → ⊥) → None ≡ capped (next s) → None ≡ capped (then_maybe next n s)
      go [] h e = absurd (h refl)
      go (x ∷ s) h e = ap (λ (o : Option ℕ). capped (added n o)) e ∙ added_alike n n (next (x ∷ s)) (alike_itself n)

  pub then_more : {b : Option ℕ} {m k : ℕ} → (length s ≡ 0 → ⊥) → b ≡ capped (next s) → b ≡ Some m → k ≡ at_most (n + m) → Some k ≡ capped (then_maybe next n s)
  unfolding capped then_maybe added
  then_more {b} {m} {k} h f z q = go s h (sym z ∙ f)
    where
      go : (s : List ℕ) → (length s ≡ 0 → ⊥) → Some m ≡ capped (next s) → Some k ≡ capped (then_maybe next n s)
      go [] h e = absurd (h refl)
      go (x ∷ s) h e = rw q (ap (λ (o : Option ℕ). capped (added n o)) e ∙ added_alike n n (next (x ∷ s)) (alike_itself n))

pub no_more : (s : List ℕ) → None ≡ capped (nothing_more s)
unfolding capped
no_more s = refl

-- what follows n seconds
pub ruleset thens = (rules, then_last, then_less, then_more)

-- ---- what was counted: no number with a unit, or one that is k

pub record Told (s : List ℕ) (a : Amount) (k : Counted) : Type 0 where
  pub is : counted s ≡ Some k
  pub number : a.count ≡ at_most k.count
  pub letter : a.unit ≡ k.unit
  pub more : a.rest.now ≡ k.rest

module _ (s : List ℕ) {r : Option Amount} (e : option_map counted_by r ≡ capped_count (counted s)) where
  pub told_none : r ≡ None → counted s ≡ None
  told_none h = go (counted s) (rw h at e)
    where
      go : (o : Option Counted) → None ≡ capped_count o → o ≡ None
      go None q = refl
      go (Some k) q = absurd (none-some _ q)

  pub told_some : {a : Amount} → r ≡ Some a → (k : Counted) × Told s a k
  told_some {a} h = go (counted s) refl (rw h at e)
    where
      go : (o : Option Counted) → counted s ≡ o → Some (counted_by a) ≡ capped_count o → (k : Counted) × Told s a k
      go None p q = absurd (none-some _ (sym q))
      go (Some k) p q =
          let r : counted_by a ≡ counts (at_most k.count) k.unit k.rest = same_Some _ _ q in
          (k, record { is = p; number = ap (λ (c : Counted). c.count) r; letter = ap (λ (c : Counted). c.unit) r; more = ap (λ (c : Counted). c.rest) r })

-- ---- a number with the unit c of so many seconds, and what `next` reads after it

pub amount_none : (c seconds : ℕ) (next : List ℕ → Option ℕ) (s : List ℕ) → counted s ≡ None → amount c seconds next s ≡ None
amount_none c seconds next s e = rw e

pub amount_other : (c seconds : ℕ) (next : List ℕ → Option ℕ) (s : List ℕ) (k : Counted) → counted s ≡ Some k → (k.unit ≡ c → ⊥) → amount c seconds next s ≡ None
amount_other c seconds next s k e n = rw (e, ne_eqb k.unit c n)

-- as the code has it
pub amount_here : (c seconds : ℕ) (next : List ℕ → Option ℕ) (s : List ℕ) (a : Amount) (k : Counted) → Told s a k → a.unit ≡ c → 0 < seconds
    → capped (then_maybe next (a.count * seconds) a.rest.now) ≡ capped (amount c seconds next s)
amount_here c seconds next s a k t u z =
    ap (λ (l : List ℕ). capped (then_maybe next (a.count * seconds) l)) t.more
    ∙ then_alike next (a.count * seconds) (k.count * seconds) k.rest (alike_times a.count k.count seconds z (rw t.number (alike_cut k.count)))
    ∙ ap capped (sym (rw (t.is, eq-eqb k.unit c (sym t.letter ∙ u))))
