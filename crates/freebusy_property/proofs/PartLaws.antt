-- Laws of parts that pass a test. Assumes nothing.
use Rattle.std.proofs.Common.{◌≡◌, refl, ap, ℕ, ◌+◌, Bool, true, false, ◌||◌, List, [], ◌∷◌, arith}
use mathlib.Core.Bool.{and-false}
use borrow.Author.Tests.{le-ltb}
use Rattle.std.specs.List.{list_any}
use Rattle.loops.specs.Lists.{any_of, all_of, count_of}
use Rattle.freebusy_property.specs.Property.{is_fbtype, one_fbparam, fbparam}
use Rattle.freebusy_property.specs.inner.Reading.{fbparam_from}

-- what std's `any` gives of a list, in the words of `any_of`
pub any_listed : {A : Type 0} (p : A → Bool) (xs : List A) → list_any p xs ≡ any_of p xs
unfolding any_of
any_listed p [] = refl
any_listed p (x ∷ xs) = ap (λ (b : Bool). p x || b) (any_listed p xs)

-- ---- parameters, where one before them is FBTYPE or none is

pub types_start : (ps : List (List ℕ)) → fbparam_from false ps ≡ fbparam ps
unfolding fbparam_from fbparam
types_start ps = let z : 0 + count_of is_fbtype ps ≡ count_of is_fbtype ps = omega arith in rw z

pub types_end : (typed : Bool) → fbparam_from typed [] ≡ true
unfolding fbparam_from all_of count_of
types_end true = refl
types_end false = refl

module _ (typed : Bool) (p : List ℕ) (ps : List (List ℕ)) where
  pub types_off : one_fbparam p ≡ false → fbparam_from typed (p ∷ ps) ≡ false
  unfolding fbparam_from all_of
  types_off e = rw e

  pub types_other : one_fbparam p ≡ true → is_fbtype p ≡ false → fbparam_from typed ps ≡ fbparam_from typed (p ∷ ps)
  unfolding fbparam_from all_of count_of
  types_other e n =
      let z : 0 + count_of is_fbtype ps ≡ count_of is_fbtype ps = omega arith in
      rw (e, n, z)

module _ (p : List ℕ) (ps : List (List ℕ)) where
  pub types_many : is_fbtype p ≡ true → fbparam_from true (p ∷ ps) ≡ false
  unfolding fbparam_from count_of
  types_many t = rw (t, le-ltb (1 + (1 + count_of is_fbtype ps)) 2 (omega arith)) (and-false (all_of one_fbparam (p ∷ ps)))

  pub types_one : one_fbparam p ≡ true → is_fbtype p ≡ true → fbparam_from true ps ≡ fbparam_from false (p ∷ ps)
  unfolding fbparam_from all_of count_of
  types_one e t =
      let z : 0 + (1 + count_of is_fbtype ps) ≡ 1 + count_of is_fbtype ps = omega arith in
      rw (e, t, z)

pub ruleset types = (types_start, types_end, types_off, types_other, types_many, types_one)
