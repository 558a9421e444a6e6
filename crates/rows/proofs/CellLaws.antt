-- Cells past the rows, and a cell as a natural number. Assumes nothing.
use Prim.Native.Nat.{ℕ, ◌+◌, ◌*◌, ◌<◌, ◌≤◌}
use mathlib.Core.Path.{◌≡◌, refl, sym}
use mathlib.Core.Bool.{Bool, true, false, cond}
use mathlib.Core.List.{List}
use native.Mathlib.Omega.{arith}
use lib.Dec.{ltb}
use lib.ListN.{length, get_or, get_or-eq_default}
use lib.IntN.{ℤ, pos, negsuc}
use mir.Syntax.{w64}
use mir.Val.{SFits}
use borrow.Author.Tests.{le-ltb}
use Rattle.loops.specs.Numbers.{to_nat}
use Rattle.rows.specs.Cells.{cell}

-- past the end a cell is 0
pub cell_past : (rows : List ℤ) (k c : ℕ) → length rows ≤ k * 10 + c → pos 0 ≡ cell rows k c
unfolding cell
cell_past rows k c h = go (ltb c 10)
  where
    go : (b : Bool) → pos 0 ≡ cond b (get_or rows (k * 10 + c) (pos 0)) (pos 0)
    go true = sym (get_or-eq_default rows (pos 0) h)
    go false = refl

pub cell_wide : (rows : List ℤ) (k c : ℕ) → 10 ≤ c → pos 0 ≡ cell rows k c
unfolding cell
cell_wide rows k c h = rw (le-ltb c 10 h)

-- a number that is held is below 2^63
nat_held : (z : ℤ) → SFits w64 z → to_nat z < 9223372036854775808
nat_held (pos n) f = omega (arith, f.sfits)
nat_held (negsuc n) f = omega arith
