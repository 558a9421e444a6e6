-- The owner of a row as the lookup by id answers it. Assumes nothing.
use Prim.Native.Nat.{ℕ}
use mathlib.Core.Path.{◌≡◌, refl, ap, ◌∙◌}
use mathlib.Core.Bool.{true}
use mathlib.Core.List.{List}
use Rattle.std.specs.Prelude.{Option, Some}
use Rattle.owners.specs.declared.Owner.TheVariants.{ActivityRow}
use lib.IntN.{ℤ}
use Rattle.rows.specs.Cells.{num, is}
use Rattle.sheet.specs.Places.{place_of}
use Rattle.sheet.specs.inner.Index.{or_end, stored_place}
use Rattle.sheet.proofs.Lookups.{is_num}
use Rattle.sheet.proofs.Stored.{stored}
use Rattle.owners.proofs.Tables.{owner_within}
use Rattle.owners.specs.inner.Owners.{owner_kind, owner_of, owner_place, own_place, res_place}

module _ (rows : List ℤ) where
  -- what is read of the table
  pub owner_read : (k : ℕ) {o : ℕ} {x : Option ℕ} → o ≡ own_place rows k → x ≡ stored_place rows o → x ≡ owner_place rows k
  unfolding own_place owner_place
  owner_read k e f = f ∙ stored rows (owner_place rows k) e (owner_within rows (owner_kind (num rows k 0)) k)

  -- the owner as it is named
  pub task_named : (k : ℕ) {x : Option ℕ} → is rows k 0 2 ≡ true → x ≡ owner_place rows k → x ≡ place_of rows 1 (num rows k 2)
  unfolding owner_place owner_kind owner_of
  task_named k h e = rw (is_num rows k 0 2 h) at e

  pub activity_named : (k : ℕ) {x : Option ℕ} → owner_kind (num rows k 0) ≡ Some ActivityRow → x ≡ owner_place rows k → x ≡ place_of rows 2 (num rows k 1)
  unfolding owner_place owner_of
  activity_named k h e = rw h at e

  pub own_resource : (k : ℕ) {o : ℕ} → is rows k 0 23 ≡ true → o ≡ res_place rows k → o ≡ or_end rows (place_of rows 11 (num rows k 3))
  unfolding res_place
  own_resource k h e = rw h at e

  -- bookings and spans belong to activities
  pub books : (k : ℕ) → is rows k 0 23 ≡ true → owner_kind (num rows k 0) ≡ Some ActivityRow
  books k e = ap owner_kind (is_num rows k 0 23 e) ∙ (unfold owner_kind in refl)

  pub spans : (k : ℕ) → is rows k 0 24 ≡ true → owner_kind (num rows k 0) ≡ Some ActivityRow
  spans k e = ap owner_kind (is_num rows k 0 24 e) ∙ (unfold owner_kind in refl)
