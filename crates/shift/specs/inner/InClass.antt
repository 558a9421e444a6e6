-- Every number is in the class of its column: of an accepted sheet demand 3 needs no more. Assumes nothing.
use Rattle.std.specs.Prelude.{ℕ, ◌≡◌, true, List, ℤ}
use Rattle.rows.specs.Table.{class_of}
use Rattle.rows.specs.Ranges.{in_class}
use Rattle.rows.specs.Cells.{cell, num}

pub record InClass (rows : List ℤ) : Type 0 where
  pub columns : (k c : ℕ) → in_class (class_of (num rows k 0) c) (cell rows k c) ≡ true
