-- What a booking takes, by its row. Assumes nothing.
use Prim.Native.Nat.{ℕ}
use mathlib.Core.Path.{◌≡◌, sym, ap, ◌∙◌}
use mathlib.Core.List.{List}
use Rattle.std.specs.Prelude.{Some}
use lib.IntN.{ℤ}
use Rattle.rows.specs.Cells.{num}
use Rattle.sheet.specs.declared.Found.{Found}
use Rattle.sheet.specs.declared.Found.TheVariants.{At}
use Rattle.sheet.specs.inner.Found.{found_of}
use Rattle.sheet.specs.Places.{place_of}
use Rattle.model.proofs.Finds.{found_self}

-- a row that was found is found by its own id
pub own_place_lem : (rows : List ℤ) (x id : ℕ) {f : Found} {k : ℕ} → found_of f ≡ place_of rows x id → f ≡ At k → place_of rows x (num rows k 1) ≡ Some k
own_place_lem rows x id e q = found_self rows x id _ (sym e ∙ ap found_of q)
