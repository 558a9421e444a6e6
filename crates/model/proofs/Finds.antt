-- What a lookup by id finds, by the place of the row that it finds. Assumes nothing.
use Prim.Native.Nat.{ℕ, zero, suc}
use mathlib.Core.Path.{◌≡◌, refl, ap, ap₂, ◌∙◌}
use mathlib.Core.Bool.{Bool, true, false, ◌&&◌}
use mathlib.Core.List.{List, [], ◌∷◌, ◌++◌}
use Rattle.std.specs.Prelude.{Option, None, Some}
use lib.Dec.{eqb}
use lib.IntN.{ℤ}
use Rattle.loops.specs.Lists.{given, keep, head, option}
use Rattle.loops.specs.Range.{collect}
use Rattle.loops.specs.Search.{or_else, some_if, first, first_place}
use Rattle.loops.proofs.ListLaws.{keep_collect, head_collect}
use Rattle.rows.specs.Cells.{row_count, num, is}
use Rattle.sheet.specs.Places.{named, place_of}
use Rattle.sheet.proofs.Lookups.{placed}
use Rattle.model.specs.Sheet.{sheet}
use Rattle.model.specs.Task.{task_at, tasks, find_task}
use Rattle.model.specs.Activity.{activity_at, activities, find_activity}
use Rattle.model.specs.Resource.{resource_at, resources, find_resource}
use Rattle.model.specs.inner.Records.{task_of, activity_of, resource_of}
use Rattle.model.proofs.RowLaws.{task_row, task_none, activity_row, activity_none, resource_row, resource_none}

module _ {A : Type 0} where
  pub first_same : (f g : ℕ → Option A) (n : ℕ) → ((k : ℕ) → f k ≡ g k) → first f n ≡ first g n
  unfolding first
  first_same f g zero h = refl
  first_same f g (suc n) h = ap₂ or_else (first_same f g n h) (h n)

  -- what the first place gives that passes a test
  pub first_placed : (q : ℕ → Bool) (g : ℕ → A) (n : ℕ)
      → first (λ k. some_if (q k) (g k)) n ≡ option (first_place q n) None (λ k. Some (g k))
  unfolding first first_place
  first_placed q g zero = refl
  first_placed q g (suc n) = ap (λ x. or_else x (some_if (q n) (g n))) (first_placed q g n) ∙ go (first_place q n) (q n)
    where
      go : (x : Option ℕ) (b : Bool)
          → or_else (option x None (λ k. Some (g k))) (some_if b (g n)) ≡ option (or_else x (some_if b n)) None (λ k. Some (g k))
      go None true = refl
      go None false = refl
      go (Some k) b = refl

  pub given_head : (b : Bool) (y : A) → head (given b y ++ []) ≡ some_if b y
  given_head true y = refl
  given_head false y = refl

-- rows of kind x that stand for g k, looked for by their first column
module _ (rows : List ℤ) (x : ℕ) {A : Type 0} (at : ℕ → List A) (g : ℕ → A) (key : A → ℕ)
    (here : (k : ℕ) → is rows k 0 x ≡ true → at k ≡ g k ∷ [])
    (other : (k : ℕ) → is rows k 0 x ≡ false → at k ≡ [])
    (keyed : (k : ℕ) → key (g k) ≡ num rows k 1) where
  at_row : (id k : ℕ) → head (keep (λ a. eqb (key a) id) (at k)) ≡ some_if (named rows x id k) (g k)
  unfolding keep named is
  at_row id k = go (is rows k 0 x) refl
    where
      go : (b : Bool) → is rows k 0 x ≡ b
          → head (keep (λ a. eqb (key a) id) (at k)) ≡ some_if (is rows k 0 x && is rows k 1 id) (g k)
      go true h = rw (h, here k h, keyed k) (given_head (eqb (num rows k 1) id) (g k))
      go false h = rw (h, other k h)

  found : (id n : ℕ) → head (keep (λ a. eqb (key a) id) (collect at n)) ≡ option (first_place (named rows x id) n) None (λ k. Some (g k))
  found id n =
      ap head (keep_collect (λ a. eqb (key a) id) at n)
      ∙ head_collect (λ k. keep (λ a. eqb (key a) id) (at k)) n
      ∙ first_same _ _ n (at_row id)
      ∙ first_placed (named rows x id) g n

module _ (rows : List ℤ) (id : ℕ) where
  pub find_task_lem : find_task (sheet rows) id ≡ option (place_of rows 1 id) None (λ k. Some (task_of rows k))
  unfolding find_task tasks place_of
  find_task_lem = found rows 1 (task_at (sheet rows)) (task_of rows) (λ a. a.id) (task_row rows) (task_none rows) (λ k. refl) id (row_count rows)

  pub find_activity_lem : find_activity (sheet rows) id ≡ option (place_of rows 2 id) None (λ k. Some (activity_of rows k))
  unfolding find_activity activities place_of
  find_activity_lem =
      found rows 2 (activity_at (sheet rows)) (activity_of rows) (λ a. a.id) (activity_row rows) (activity_none rows) (λ k. refl) id (row_count rows)

  pub find_resource_lem : find_resource (sheet rows) id ≡ option (place_of rows 11 id) None (λ k. Some (resource_of rows k))
  unfolding find_resource resources place_of
  find_resource_lem =
      found rows 11 (resource_at (sheet rows)) (resource_of rows) (λ a. a.id) (resource_row rows) (resource_none rows) (λ k. refl) id (row_count rows)

-- a row that was found is found by its own id
pub found_self : (rows : List ℤ) (x id a : ℕ) → place_of rows x id ≡ Some a → place_of rows x (num rows a 1) ≡ Some a
found_self rows x id a q = ap (place_of rows x) (placed rows x id a q).id_is ∙ q
