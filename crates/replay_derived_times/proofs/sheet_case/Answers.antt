use mathlib.Core.List.{List}
use mathlib.Core.Path.{◌≡◌, sym, ap, ◌∙◌}
use lib.IntN.{ℤ}
use Rattle.std.specs.Prelude.{None, Result, Ok}
use Rattle.refusals.specs.Refusals.{verdict_of}
use Rattle.refusals.specs.declared.Refusal.{Refusal}
use Rattle.sheet.specs.Refusals.{refusal_of}
use Rattle.model.specs.inner.Indexed.{Indexed}
use Rattle.owners.specs.declared.sheet_index.SheetIndex.{SheetIndex}
use Rattle.validation.specs.inner.Answer.{Indexing}
use Rattle.validation.proofs.Order.{tables_of}
use Rattle.replay_derived_times.proofs.sheet_case.Goals as goal

-- a sheet that is not refused, with its index
module _ {rows : List ℤ} {before after : SheetIndex} {v : Result Unit Refusal} (i : Indexing rows before v after) (e : v ≡ (Ok tt)) where
  fine : refusal_of rows ≡ None
  fine = sym i.verdict ∙ ap verdict_of e

  indexed : Indexed rows after
  indexed = record { accepted = fine; filled = tables_of rows i fine }

pub new-sheet-requires : goal.new-sheet-requires
new-sheet-requires c = indexed c.index.ensures c.in-Ok.is
