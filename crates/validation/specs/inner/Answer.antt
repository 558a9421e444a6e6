-- What the validation of a sheet answers. Assumes nothing.
use Rattle.std.specs.Prelude.{Result}
use Rattle.std.specs.Prelude.{ℕ, ◌≡◌, List, ℤ, length}
use Rattle.std.specs.Prelude.{Option, None}
use Rattle.loops.specs.Search.{or_else, first}
use Rattle.loops.specs.inner.Tells.{TellsAs}
use Rattle.rows.specs.Cells.{row_count}
use Rattle.owners.specs.declared.sheet_index.SheetIndex.{SheetIndex}
use Rattle.owners.specs.inner.Filled.{Filled}
use Rattle.refusals.specs.Refusals.{refuse, verdict_of}
use Rattle.refusals.specs.declared.Reason.TheVariants.{Misshapen}
use Rattle.refusals.specs.declared.Refusal.{Refusal}
use Rattle.sheet.specs.Refusals.{misshapen, column_fault, owner_fault, repeat_fault, refusal_of}

-- ---- refusals in two steps: those of a row by itself, then those that look at other rows

unfoldable pub shape_refusal : List ℤ → Option Refusal
shape_refusal rows = or_else (refuse (misshapen (length rows)) Misshapen 0) (first (column_fault rows) (row_count rows))

unfoldable pub link_refusal : List ℤ → Option Refusal
link_refusal rows = or_else (first (owner_fault rows) (row_count rows)) (first (repeat_fault rows) (row_count rows))

-- what a test may answer of each of so many rows is what f says
abbrev pub Tells : (ℕ → Option Refusal) → ℕ → (ℕ → Result Unit Refusal → Type 0) → Type 0
Tells f count may = TellsAs verdict_of count may f

-- what `index` answers and leaves: the verdict; the tables of the rows, if none of 1 to 3 refuses the sheet, and else what was lent
pub record Indexing (rows : List ℤ) (before : SheetIndex) (v : Result Unit Refusal) (after : SheetIndex) : Type 0 where
  pub verdict : verdict_of v ≡ refusal_of rows
  pub tables : shape_refusal rows ≡ None → Filled rows after
  pub kept : (shape_refusal rows ≡ None → ⊥) → after ≡ before
