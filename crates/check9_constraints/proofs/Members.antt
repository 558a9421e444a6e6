-- The members of a constraint, by their rows. Assumes nothing.
use Prim.Native.Nat.{ℕ, suc}
use mathlib.Core.Path.{◌≡◌, refl, ap, sym, ◌∙◌}
use mathlib.Core.Bool.{Bool, true, false, ◌&&◌}
use mathlib.Core.List.{List, [], ◌∷◌, ◌++◌, map}
use lib.Dec.{eqb}
use lib.IntN.{ℤ}
use lib.ListN.{length}
use Rattle.loops.specs.Lists.{given, each}
use Rattle.loops.proofs.ListLaws.{map_append, map_collect}
use Rattle.loops.proofs.RangeLaws.{collect_ext}
use Rattle.chains.specs.Places.{places}
use Rattle.rows.specs.Cells.{row_count, num, is}
use Rattle.sheet.specs.Places.{named}
use Rattle.sheet.proofs.Lookups.{is_num}
use Rattle.model.specs.Sheet.{sheet, row_at}
use Rattle.model.specs.inner.Records.{num_at}
use Rattle.model.specs.Resource.{listed}
use Rattle.model.specs.Constraint.{members}

module _ (rows : List ℤ) (p : ℕ) where
  member_at : (k : ℕ) → row_at (sheet rows) 22 (λ j. given (eqb (num_at (sheet rows) j 1) p) (num_at (sheet rows) j 2)) k ≡ map (λ j. num rows j 2) (given (named rows 22 p k) k)
  unfolding named is
  member_at k = go (is rows k 0 22) refl
    where
      one : (b : Bool) → given b (num rows k 2) ≡ map (λ j. num rows j 2) (given b k)
      one true = refl
      one false = refl

      go : (b : Bool) → is rows k 0 22 ≡ b
          → row_at (sheet rows) 22 (λ j. given (eqb (num_at (sheet rows) j 1) p) (num_at (sheet rows) j 2)) k
          ≡ map (λ j. num rows j 2) (given (is rows k 0 22 && is rows k 1 p) k)
      go true h = rw (h, is_num rows k 0 22 h) (one (eqb (num rows k 1) p))
      go false h = rw h

  pub members_are : members (sheet rows) p ≡ map (λ k. num rows k 2) (places (named rows 22 p) (row_count rows))
  unfolding listed places
  members_are =
      collect_ext _ _ (row_count rows) (λ k l. member_at k)
      ∙ sym (map_collect (λ k. num rows k 2) (λ k. given (named rows 22 p k) k) (row_count rows))

-- ---- lists of what is made of each

pub map_each : {A B C : Type 0} (f : B → C) (g : A → List B) (l : List A) → each (λ x. map f (g x)) l ≡ map f (each g l)
unfolding each
map_each f g [] = refl
map_each f g (x ∷ l) = ap (λ y. map f (g x) ++ y) (map_each f g l) ∙ sym (map_append f (g x) (each g l))

pub length_map : {A B : Type 0} (f : A → B) (l : List A) → length (map f l) ≡ length l
length_map f [] = refl
length_map f (x ∷ l) = ap (λ n. suc n) (length_map f l)
