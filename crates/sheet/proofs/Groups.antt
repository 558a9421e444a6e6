-- Refusal 5 by the table of kinds is refusal 5 by its seven cases. Assumes nothing.
use Prim.Native.Nat.{ℕ, zero, suc, ◌<◌, ◌≤◌}
use mathlib.Core.Path.{◌≡◌, refl, sym, ◌∙◌}
use mathlib.Core.Bool.{Bool, beq, true, false, not, cond, ◌&&◌, ◌||◌, false≢true, true≢false}
use mathlib.Core.List.{List, [], ◌∷◌}
use native.Mathlib.Omega.{arith}
use native.Mathlib.Decide.{dec_lt}
use lib.Dec.{eqb, ltb}
use lib.IntN.{ℤ}
use lib.ListN.{get_or-eq_default}
use borrow.Author.Tests.{ne_eqb, not-false, ltb-true}
use Rattle.loops.specs.Lists.{any_of, all_of, among}
use Rattle.loops.specs.Search.{any_below}
use Rattle.loops.proofs.SearchLaws.{any_none}
use Rattle.loops.proofs.PlaceLaws.{any_same, any_either}
use Rattle.rows.specs.Cells.{num, is}
use Rattle.sheet.specs.Places.{named}
use Rattle.sheet.specs.Refusals.{repeats, repeated}
use Rattle.sheet.specs.inner.Groups.{groups, group, named_pair, repeated_in, repeated_by, once}

beq_true : (a b : Bool) → beq a b ≡ true → a ≡ b
beq_true true true e = refl
beq_true true false e = absurd (false≢true e)
beq_true false true e = absurd (false≢true e)
beq_true false false e = refl

-- row k of kind n, and row j of which `of` tells its kinds; column 1 is the same or not, and column 2
abbrev both : List ℕ → Bool → ℕ → (ℕ → Bool) → Bool
both kinds same n of = among n kinds && (any_of of kinds && same)

abbrev cases : Bool → Bool → ℕ → (ℕ → Bool) → Bool
cases a b n of =
    both (1 ∷ []) (a && true) n of || both (2 ∷ []) (a && true) n of || both (11 ∷ []) (a && true) n of || both (3 ∷ []) (a && true) n of
    || both (4 ∷ []) (a && true) n of || both (9 ∷ 10 ∷ []) (a && (b && true)) n of || both (14 ∷ []) (a && (b && true)) n of

abbrev by_group : Bool → Bool → ℕ → (ℕ → Bool) → Bool
by_group a b g of =
    cond (eqb g 0) false
    (cond (eqb g 14) ((of 14 && a) && b) (cond (eqb g 9) (((of 9 && a) && b) || ((of 10 && a) && b)) (of g && a)))

abbrev apart : Bool → Bool → ℕ → (ℕ → Bool) → Bool
apart a b n of = not (beq (cases a b n of) (by_group a b (group n) of))

-- computed below 15, and for a row j of none of these kinds
tried : (a b : Bool) → any_below (λ n. not (ltb (group n) 15) || (apart a b n (λ x. false) || any_below (λ m. apart a b n (eqb m)) 15)) 15 ≡ false
unfolding any_below any_of group
tried true true = refl
tried true false = refl
tried false true = refl
tried false false = refl

or_both : (x y : Bool) → (x || y) ≡ false → (x ≡ false) × (y ≡ false)
or_both true y e = absurd (true≢false e)
or_both false y e = (refl, e)

module _ (a b : Bool) (n : ℕ) (h : n < 15) where
  tests : (ltb (group n) 15 ≡ true) × (cases a b n (λ x. false) ≡ by_group a b (group n) (λ x. false)) × ((m : ℕ) → m < 15 → cases a b n (eqb m) ≡ by_group a b (group n) (eqb m))
  tests =
      let t = or_both _ _ (any_none _ 15 n (tried a b) h) in
      let u = or_both _ _ t.1 in
      (not-false _ t.0, beq_true _ _ (not-false _ u.0), λ m l. beq_true _ _ (not-false _ (any_none _ 15 m u.1 l)))

module _ (n : ℕ) (h : 15 ≤ n) where
  far : (x : ℕ) → ltb x 15 ≡ true → eqb n x ≡ false
  far x l = ne_eqb n x (λ e. omega (arith, ltb-true x 15 l))

  no_group : group n ≡ 0
  unfolding group
  no_group = get_or-eq_default groups 0 h

kinds : (a b : Bool) (n m : ℕ) → cases a b n (eqb m) ≡ by_group a b (group n) (eqb m)
unfolding any_of
kinds a b n m = go (dec_lt n 15) (dec_lt m 15)
  where
    go : Dec (n < 15) → Dec (m < 15) → cases a b n (eqb m) ≡ by_group a b (group n) (eqb m)
    go (yes h) (yes l) = (tests a b n h).2 m l
    go (yes h) (no l) =
        let d : 15 ≤ m = omega arith in
        rw (far m d 1 refl, far m d 2 refl, far m d 11 refl, far m d 3 refl, far m d 4 refl, far m d 9 refl, far m d 10 refl, far m d 14 refl, far m d (group n) (tests a b n h).0)
        (tests a b n h).1
    go (no h) y =
        let d : 15 ≤ n = omega arith in
        rw (far n d 1 refl, far n d 2 refl, far n d 11 refl, far n d 3 refl, far n d 4 refl, far n d 9 refl, far n d 10 refl, far n d 14 refl, no_group n d)

any_never : (n : ℕ) → any_below (λ j. false) n ≡ false
unfolding any_below
any_never zero = refl
any_never (suc n) = rw (any_never n)

-- a choice that is the same at every place
chosen : (x y z : Bool) (p q r s : ℕ → Bool) (n : ℕ)
    → any_below (λ j. cond x false (cond y (p j) (cond z (q j || r j) (s j)))) n
    ≡ cond x false (cond y (any_below p n) (cond z (any_below q n || any_below r n) (any_below s n)))
chosen true y z p q r s n = any_never n
chosen false true z p q r s n = refl
chosen false false true p q r s n = any_either q r n
chosen false false false p q r s n = refl

pub by_groups : (rows : List ℤ) (k : ℕ) → repeated rows k ≡ repeated_by rows k
unfolding repeated repeats repeated_in named_pair named is any_of all_of
by_groups rows k =
    let g : ℕ = group (num rows k 0) in
    any_same (repeats rows k) (λ j. by_group (eqb (num rows j 1) (num rows k 1)) (eqb (num rows j 2) (num rows k 2)) g (eqb (num rows j 0))) k
    (λ j l. kinds (eqb (num rows j 1) (num rows k 1)) (eqb (num rows j 2) (num rows k 2)) (num rows k 0) (num rows j 0))
    ∙ chosen (eqb g 0) (eqb g 14) (eqb g 9) (named_pair rows 14 (num rows k 1) (num rows k 2)) (named_pair rows 9 (num rows k 1) (num rows k 2))
    (named_pair rows 10 (num rows k 1) (num rows k 2)) (named rows g (num rows k 1)) k

-- a group's number is small, whatever the kind
pub group_small : (kind g : ℕ) → g ≡ group kind → g < 32
group_small kind g q = go (dec_lt kind 15)
  where
    go : Dec (kind < 15) → g < 32
    go (yes h) = omega (arith, ltb-true (group kind) 15 (tests true true kind h).0)
    go (no h) = let d : 15 ≤ kind = omega arith in omega (arith, no_group kind d)

-- rows of a kind whose column 1 says all repeat one another by it
twice_tried : (b : Bool) → any_below (λ n. not (not (once n) || cases true b n (eqb n))) 15 ≡ false
unfolding any_below any_of
twice_tried true = refl
twice_tried false = refl

twice : (b : Bool) (n : ℕ) → once n ≡ true → cases true b n (eqb n) ≡ true
twice b n o = go (dec_lt n 15)
  where
    go : Dec (n < 15) → cases true b n (eqb n) ≡ true
    go (yes h) = rw o at (not-false (not (once n) || cases true b n (eqb n)) (any_none _ 15 n (twice_tried b) h))
    go (no h) =
        let d : 15 ≤ n = omega arith in
        absurd (true≢false (sym o ∙ rw (far n d 1 refl, far n d 2 refl, far n d 3 refl, far n d 4 refl, far n d 11 refl)))

pub once_repeats : (rows : List ℤ) (k j kind : ℕ) → once kind ≡ true → num rows k 0 ≡ kind → num rows j 0 ≡ kind → eqb (num rows j 1) (num rows k 1) ≡ true → repeats rows k j ≡ true
unfolding repeats any_of all_of
once_repeats rows k j kind o p q s = rw (p, q, s) (twice (eqb (num rows j 2) (num rows k 2)) kind o)
