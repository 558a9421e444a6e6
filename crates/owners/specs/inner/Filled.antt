-- What the tables of a sheet's index hold. Assumes nothing.
use Rattle.std.specs.Prelude.{List, ℤ}
use Rattle.sheet.specs.inner.Index.{Kinds}
use Rattle.owners.specs.declared.sheet_index.SheetIndex.{SheetIndex}
use Rattle.owners.specs.inner.Owners.{Linked, Owned}

-- the tables are those of these rows
pub record Filled (rows : List ℤ) (x : SheetIndex) : Type 0 where
  pub by_kind : Kinds rows x.kinds
  pub linked : Linked rows x.links
  pub by_owner : Owned rows x.owned
