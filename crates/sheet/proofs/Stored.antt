-- A place as a table holds it: how large it is, and the row that it names. Assumes nothing.
use Prim.Native.Nat.{ℕ, ◌<◌, ◌≤◌}
use mathlib.Core.Path.{◌≡◌, refl}
use mathlib.Core.List.{List}
use Rattle.std.specs.Prelude.{Option, None, Some}
use native.Mathlib.Omega.{arith}
use lib.IntN.{ℤ}
use borrow.Author.Tests.{lt-ltb, le-ltb}
use Rattle.rows.specs.Cells.{row_count}
use Rattle.sheet.specs.Places.{place_of}
use Rattle.sheet.specs.inner.Index.{or_end, stored_place}
use Rattle.sheet.proofs.Lookups.{placed}

-- ---- it is at most the number of rows

pub below : (rows : List ℤ) (x : Option ℕ) → ((k : ℕ) → x ≡ Some k → k < row_count rows) → or_end rows x ≤ row_count rows
unfolding or_end
below rows None h = omega arith
below rows (Some k) h = omega (arith, h k refl)

pub named_below : (rows : List ℤ) (x id : ℕ) → or_end rows (place_of rows x id) ≤ row_count rows
named_below rows x id = below rows (place_of rows x id) (λ k e. (placed rows x id k e).within)

-- ---- what it names

-- as it is read, and as it is written
module _ (rows : List ℤ) {n : ℕ} (e : n ≡ row_count rows) where
  pub stored_some : {k : ℕ} → k < n → Some k ≡ stored_place rows k
  unfolding stored_place
  stored_some {k} l = rw (lt-ltb k (row_count rows) (rw e at l))

  pub stored_none : {k : ℕ} → n ≤ k → None ≡ stored_place rows k
  unfolding stored_place
  stored_none {k} l = rw (le-ltb k (row_count rows) (rw e at l))

module _ (rows : List ℤ) where
  -- a place that was stored names the row that it was found at
  pub stored : (x : Option ℕ) {o : ℕ} → o ≡ or_end rows x → ((k : ℕ) → x ≡ Some k → k < row_count rows) → stored_place rows o ≡ x
  unfolding stored_place or_end
  stored None e h = rw (e, le-ltb (row_count rows) (row_count rows) (omega arith))
  stored (Some k) e h = rw (e, lt-ltb k (row_count rows) (h k refl))

  pub stored_place_lem : (y id : ℕ) {o : ℕ} → o ≡ or_end rows (place_of rows y id) → stored_place rows o ≡ place_of rows y id
  stored_place_lem y id e = stored (place_of rows y id) e (λ k q. (placed rows y id k q).within)
