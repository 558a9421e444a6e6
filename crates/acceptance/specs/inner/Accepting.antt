-- What `accept` answers and leaves: the verdict by refusals 1 to 6; the tables as `index` leaves them. Assumes nothing.
use Rattle.std.specs.Prelude.{Result}
use Rattle.std.specs.Prelude.{◌≡◌, List, ℤ}
use Rattle.std.specs.Prelude.{None}
use Rattle.refusals.specs.Refusals.{verdict_of}
use Rattle.refusals.specs.declared.Refusal.{Refusal}
use Rattle.owners.specs.declared.sheet_index.SheetIndex.{SheetIndex}
use Rattle.owners.specs.inner.Filled.{Filled}
use Rattle.validation.specs.inner.Answer.{shape_refusal}
use Rattle.acceptance.specs.Refusals.{sheet_refusal}

pub record Accepting (rows : List ℤ) (before : SheetIndex) (v : Result Unit Refusal) (after : SheetIndex) : Type 0 where
  pub verdict : verdict_of v ≡ sheet_refusal rows
  pub tables : shape_refusal rows ≡ None → Filled rows after
  pub kept : (shape_refusal rows ≡ None → ⊥) → after ≡ before
