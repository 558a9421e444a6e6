-- What the checks are handed: an accepted sheet and its index. Assumes nothing.
use Rattle.std.specs.Prelude.{◌≡◌, List, ℤ}
use Rattle.std.specs.Prelude.{None}
use Rattle.sheet.specs.Refusals.{refusal_of}
use Rattle.owners.specs.declared.sheet_index.SheetIndex.{SheetIndex}
use Rattle.owners.specs.inner.Filled.{Filled}

pub record Indexed (rows : List ℤ) (x : SheetIndex) : Type 0 where
  -- refusals 1 to 5 do not refuse it
  pub accepted : refusal_of rows ≡ None
  pub filled : Filled rows x
