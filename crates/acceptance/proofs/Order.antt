-- The refusals of a sheet in order, from what the two verdicts ensure. Assumes nothing.
use Rattle.std.specs.Prelude.{Result, Ok, Err}
use mathlib.Core.Path.{◌≡◌, ap, sym, ◌∙◌}
use mathlib.Core.List.{List}
use Rattle.std.specs.Prelude.{None, Some}
use lib.IntN.{ℤ}
use Rattle.loops.proofs.PlaceLaws.{or_none_left}
use Rattle.refusals.specs.Refusals.{verdict_of}
use Rattle.refusals.specs.declared.Refusal.{Refusal}
use Rattle.sheet.specs.Refusals.{refusal_of}
use Rattle.sheet.specs.inner.Accepted.{Accepted}
use Rattle.owners.specs.declared.sheet_index.SheetIndex.{SheetIndex}
use Rattle.validation.specs.inner.Answer.{Indexing}
use Rattle.validation.proofs.Order.{shape_passed, tables_of}
use Rattle.derived_times.specs.Times.{time_refusal}
use Rattle.model.specs.inner.Indexed.{Indexed}
use Rattle.model.proofs.Accepting.{accepted}
use Rattle.acceptance.specs.Refusals.{sheet_refusal}
use Rattle.acceptance.specs.inner.Accepting.{Accepting}

module _ (rows : List ℤ) where
  pub indexed_of : {before : SheetIndex} {v : Result Unit Refusal} {after : SheetIndex} → Indexing rows before v after → v ≡ (Ok tt) → Indexed rows after
  indexed_of i e =
      let a : refusal_of rows ≡ None = sym i.verdict ∙ ap verdict_of e in
      record { accepted = a; filled = tables_of rows i a }

  pub by_rows : {v : Result Unit Refusal} {e : Refusal} → verdict_of v ≡ refusal_of rows → v ≡ Err e
      → sheet_refusal rows ≡ Some e
  unfolding sheet_refusal
  by_rows q e = rw (sym q ∙ ap verdict_of e)

  pub by_times : {v : Result Unit Refusal} {e : Refusal} → refusal_of rows ≡ None → verdict_of v ≡ time_refusal rows → v ≡ Err e
      → sheet_refusal rows ≡ Some e
  unfolding sheet_refusal
  by_times a q e = rw (a, sym q ∙ ap verdict_of e)

  pub by_none : {v : Result Unit Refusal} → refusal_of rows ≡ None → verdict_of v ≡ time_refusal rows → v ≡ (Ok tt) → sheet_refusal rows ≡ None
  unfolding sheet_refusal
  by_none a q e = rw (a, sym q ∙ ap verdict_of e)

  -- ---- `accept`

  module _ {before after : SheetIndex} {v : Result Unit Refusal} (i : Indexing rows before v after) where
    -- the rows are refused
    pub accept_rows : {e : Refusal} {u : Result Unit Refusal} → v ≡ Err e → u ≡ Err e → Accepting rows before u after
    accept_rows e f = record { verdict = ap verdict_of f ∙ sym (by_rows i.verdict e); tables = i.tables; kept = i.kept }

    -- they are not: the verdict is that of the times
    pub accept_times : {u : Result Unit Refusal} → v ≡ (Ok tt) → verdict_of u ≡ time_refusal rows → Accepting rows before u after
    unfolding sheet_refusal
    accept_times e q = record { verdict = rw (sym i.verdict ∙ ap verdict_of e) q; tables = i.tables; kept = i.kept }

  module _ {before after : SheetIndex} {v : Result Unit Refusal} (a : Accepting rows before v after) where
    pub refused_by : {e : Refusal} → v ≡ Err e → sheet_refusal rows ≡ Some e
    refused_by e = sym a.verdict ∙ ap verdict_of e

    pub passed_all : v ≡ (Ok tt) → sheet_refusal rows ≡ None
    passed_all e = sym a.verdict ∙ ap verdict_of e

    pub index_of : v ≡ (Ok tt) → Indexed rows after
    unfolding sheet_refusal
    index_of e =
        let r : refusal_of rows ≡ None = or_none_left (refusal_of rows) (time_refusal rows) (passed_all e) in
        record { accepted = r; filled = a.tables (shape_passed rows r) }

  -- a sheet that is not refused
  pub sheet_accepted : sheet_refusal rows ≡ None → Accepted rows
  unfolding sheet_refusal
  sheet_accepted h = accepted rows (or_none_left (refusal_of rows) (time_refusal rows) h)
