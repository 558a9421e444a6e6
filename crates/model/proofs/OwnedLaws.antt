-- The rows that belong to a row are those that name its id: to walk the owner's chain is to scan by id. Assumes nothing.
use Prim.Native.Nat.{ℕ}
use mathlib.Core.Path.{◌≡◌, refl, ap, sym, ◌∙◌}
use mathlib.Core.Bool.{Bool, true, false, ◌&&◌}
use mathlib.Core.List.{List}
use Rattle.std.specs.Prelude.{Option, None, Some}
use native.Mathlib.Omega.{arith}
use native.Mathlib.Decide.{ℕ_discrete}
use borrow.Author.Tests.{eq-eqb, ne_eqb}
use lib.Dec.{eqb}
use lib.IntN.{ℤ}
use Rattle.loops.proofs.BoolLaws.{and_left}
use Rattle.rows.specs.Cells.{row_count, num, is}
use Rattle.sheet.specs.Places.{place_of}
use Rattle.sheet.specs.inner.Index.{or_end}
use Rattle.sheet.proofs.Lookups.{is_num, Named, placed}
use Rattle.owners.specs.declared.Owner.{Owner}
use Rattle.owners.specs.declared.Owner.TheVariants.{TaskRow, ActivityRow, ResourceRow}
use Rattle.owners.specs.inner.Owners.{owner_kind, owner_of, own_place, owned_by}
use Rattle.owners.proofs.Tables.{own_at}

module _ (rows : List ℤ) where
  -- the place that a number stands for is that of the id's row
  same_place : (y id v a : ℕ) → place_of rows y id ≡ Some a → eqb (or_end rows (place_of rows y v)) a ≡ eqb v id
  same_place y id v a q = go (ℕ_discrete v id)
    where
      n : Named rows y id a
      n = placed rows y id a q

      apart : (x : Option ℕ) → place_of rows y v ≡ x → (v ≡ id → ⊥) → eqb (or_end rows x) a ≡ false
      apart None e d = unfold or_end in ne_eqb (row_count rows) a (λ z. omega (arith, n.within))
      apart (Some j) e d =
          unfold or_end in ne_eqb j a (λ z. d (sym (placed rows y v j e).id_is ∙ ap (λ i. num rows i 1) z ∙ n.id_is))

      go : Dec (v ≡ id) → eqb (or_end rows (place_of rows y v)) a ≡ eqb v id
      go (yes e) = rw (e, q, eq-eqb id id refl) (unfold or_end in eq-eqb a a refl)
      go (no d) = apart (place_of rows y v) refl d ∙ sym (ne_eqb v id d)

  -- rows of kind x belong to the row of kind y that their column c names
  module _ (x y c : ℕ) (owns : (k : ℕ) → is rows k 0 x ≡ true → own_place rows k ≡ or_end rows (place_of rows y (num rows k c))) where
    owned_by_lem : (a id : ℕ) → place_of rows y id ≡ Some a → (k : ℕ) → owned_by rows a x k ≡ (is rows k 0 x && is rows k c id)
    unfolding owned_by
    owned_by_lem a id q k = go (is rows k 0 x) refl
      where
        go : (b : Bool) → is rows k 0 x ≡ b → (is rows k 0 x && eqb (own_place rows k) a) ≡ (is rows k 0 x && is rows k c id)
        go true e = rw (e, owns k e) (unfold is in same_place y id (num rows k c) a q)
        go false e = rw e

  owns_at : (x : ℕ) (y : Option Owner) (k : ℕ) → owner_kind x ≡ y → is rows k 0 x ≡ true → own_place rows k ≡ or_end rows (owner_of rows y k)
  owns_at x y k o e = sym (own_at rows k {kind = x} (sym (is_num rows k 0 x e)) refl y o)

  -- rows of an activity: overlap 3, split 4, requirement 5, predecessor 8, speed 9, fixed timing 10, window 16, booking 23, span 24
  pub of_activity : (x a id : ℕ) → owner_kind x ≡ Some ActivityRow → place_of rows 2 id ≡ Some a → (k : ℕ) → owned_by rows a x k ≡ (is rows k 0 x && is rows k 1 id)
  unfolding owner_of
  of_activity x a id o q k = owned_by_lem x 2 1 (λ j e. owns_at x (Some ActivityRow) j o e) a id q k

  -- rows of a resource: skill 12, companion 13, transport 14, window 15
  pub of_resource : (x a id : ℕ) → owner_kind x ≡ Some ResourceRow → place_of rows 11 id ≡ Some a → (k : ℕ) → owned_by rows a x k ≡ (is rows k 0 x && is rows k 1 id)
  unfolding owner_of
  of_resource x a id o q k = owned_by_lem x 11 1 (λ j e. owns_at x (Some ResourceRow) j o e) a id q k

  -- activities of a task
  pub of_task : (x a id : ℕ) → owner_kind x ≡ Some TaskRow → place_of rows 1 id ≡ Some a → (k : ℕ) → owned_by rows a x k ≡ (is rows k 0 x && is rows k 2 id)
  unfolding owner_of
  of_task x a id o q k = owned_by_lem x 1 2 (λ j e. owns_at x (Some TaskRow) j o e) a id q k

  -- the owner of a row that belongs to an activity, or to a resource: what the lookup by id finds
  pub own_activity : (x k : ℕ) → owner_kind x ≡ Some ActivityRow → is rows k 0 x ≡ true → own_place rows k ≡ or_end rows (place_of rows 2 (num rows k 1))
  unfolding owner_of
  own_activity x k o e = owns_at x (Some ActivityRow) k o e

  pub own_resource : (x k : ℕ) → owner_kind x ≡ Some ResourceRow → is rows k 0 x ≡ true → own_place rows k ≡ or_end rows (place_of rows 11 (num rows k 1))
  unfolding owner_of
  own_resource x k o e = owns_at x (Some ResourceRow) k o e

  pub booking_owner : (k o : ℕ) → is rows k 0 23 ≡ true → place_of rows 2 (num rows k 1) ≡ Some o → o ≡ own_place rows k
  booking_owner k o h e = sym (own_activity 23 k (unfold owner_kind in refl) h ∙ ap (or_end rows) e ∙ (unfold or_end in refl))

  pub owned_at : (o x k : ℕ) → is rows k 0 x ≡ true → own_place rows k ≡ o → owned_by rows o x k ≡ true
  unfolding owned_by
  owned_at o x k h e = rw (h) (eq-eqb (own_place rows k) o e)

  pub owned_kind : (o x k : ℕ) → owned_by rows o x k ≡ true → is rows k 0 x ≡ true
  unfolding owned_by
  owned_kind o x k e = and_left (is rows k 0 x) (eqb (own_place rows k) o) e
