-- The order of the refusals: what stops a loop over the rows, and what stops the loops. Assumes nothing.
use Rattle.std.specs.Prelude.{Err, Result, Ok}
use Prim.Native.Nat.{ℕ, ◌%◌, ◌<◌, ◌≤◌}
use mathlib.Core.Path.{◌≡◌, refl, ap, sym, ◌∙◌}
use mathlib.Core.Bool.{true, false, not}
use mathlib.Core.List.{List}
use Rattle.std.specs.Prelude.{Option, None}
use native.Mathlib.Omega.{arith}
use lib.Dec.{eqb, ltb, leb}
use lib.IntN.{ℤ}
use lib.ListN.{length}
use borrow.Author.Tests.{ltb-false, not-false, leb-true}
use Rattle.loops.specs.Search.{or_else, first}
use Rattle.loops.proofs.BoolLaws.{and_right, neither_right}
use Rattle.loops.proofs.SearchLaws.{first_hit}
use Rattle.loops.proofs.PlaceLaws.{or_assoc, or_none_left, or_none_right, first_none, if_none}
use Rattle.loops.proofs.OrderedLaws.{none_some}
use Rattle.rows.specs.Cells.{row_count, num}
use Rattle.sheet.specs.inner.Index.{Shaped}
use Rattle.owners.specs.declared.sheet_index.SheetIndex.{SheetIndex}
use Rattle.owners.specs.inner.Filled.{Filled}
use Rattle.refusals.specs.Refusals.{refuse, verdict_of}
use Rattle.refusals.specs.declared.Reason.TheVariants.{Misshapen, UnknownKind, OutOfRange}
use Rattle.refusals.specs.declared.Refusal.{Refusal}
use Rattle.sheet.specs.Refusals.{misshapen, known_kind, out_of_range, column_fault, refusal_of}
use Rattle.validation.specs.inner.Answer.{shape_refusal, link_refusal, Indexing}

pub stops : (f : ℕ → Option Refusal) (i n N : ℕ) {v : Result Unit Refusal} {r : Refusal} → v ≡ Err r → verdict_of v ≡ f i → first f i ≡ None → i < n → n ≡ N → verdict_of v ≡ first f N
stops f i n N q r p h z = ap verdict_of q ∙ sym (first_hit f i N (omega arith) p (sym r ∙ ap verdict_of q))

pub ends : (x y : Option Refusal) {v : Result Unit Refusal} {r : Refusal} → v ≡ Err r → verdict_of v ≡ x → verdict_of v ≡ or_else x y
ends x y q p = ap verdict_of q ∙ sym (ap (λ z. or_else z y) (sym p ∙ ap verdict_of q))

-- a step that refuses nothing
pub passed : {x : Option Refusal} {v : Result Unit Refusal} → v ≡ Ok tt → verdict_of v ≡ x → x ≡ None
passed f e = sym e ∙ ap verdict_of f

pub goes_on : {x y r : Option Refusal} {v : Result Unit Refusal} → v ≡ Ok tt → verdict_of v ≡ x → r ≡ y → r ≡ or_else x y
goes_on f e q = rw (passed f e) q

-- the two steps are the whole
pub in_two : (rows : List ℤ) → refusal_of rows ≡ or_else (shape_refusal rows) (link_refusal rows)
unfolding refusal_of shape_refusal link_refusal
in_two rows = sym (or_assoc (refuse (misshapen (length rows)) Misshapen 0) (first (column_fault rows) (row_count rows)) _)

-- ---- what the first step leaves

pub shaped : (rows : List ℤ) {v : Result Unit Refusal} → v ≡ Ok tt → verdict_of v ≡ shape_refusal rows → Shaped rows
unfolding shape_refusal misshapen column_fault known_kind
shaped rows q f =
    let e : shape_refusal rows ≡ None = passed q f in
    let m : misshapen (length rows) ≡ false = if_none (misshapen (length rows)) _ (or_none_left (refuse (misshapen (length rows)) Misshapen 0) _ e) in
    let l : length rows ≤ 8000 = ltb-false 8000 (length rows) (neither_right (not (eqb (length rows % 10) 0)) (ltb 8000 (length rows)) m) in
    let f : first (column_fault rows) (row_count rows) ≡ None = or_none_right (refuse (misshapen (length rows)) Misshapen 0) (first (column_fault rows) (row_count rows)) e in
    record {
      short = omega arith;
      kinds = λ k z. small k (not-false (known_kind rows k) (if_none (not (known_kind rows k)) _ (or_none_left (refuse (not (known_kind rows k)) UnknownKind k) (refuse (out_of_range rows k) OutOfRange k) (first_none (column_fault rows) (row_count rows) f k z))));
    }
  where
    small : (k : ℕ) → known_kind rows k ≡ true → num rows k 0 < 32
    small k h = omega (arith, leb-true (num rows k 0) 24 (and_right (leb 1 (num rows k 0)) (leb (num rows k 0) 24) h))

-- ---- the answers of `index`

pub refused : (rows : List ℤ) (v : Result Unit Refusal) (x : SheetIndex) {r : Refusal} → v ≡ Err r → verdict_of v ≡ shape_refusal rows → Indexing rows x v x
refused rows v x q e = record {
  verdict = ends (shape_refusal rows) (link_refusal rows) q e ∙ sym (in_two rows);
  tables = λ z. absurd (none_some (sym (sym (ap verdict_of q) ∙ e ∙ z)));
  kept = λ z. refl;
}

pub indexed : (rows : List ℤ) (v : Result Unit Refusal) (before after : SheetIndex) {s : Result Unit Refusal} → Filled rows after → verdict_of s ≡ shape_refusal rows
    → s ≡ Ok tt → verdict_of v ≡ link_refusal rows → Indexing rows before v after
indexed rows v before after a e q f = record {
  verdict = f ∙ ap (λ y. or_else y (link_refusal rows)) (sym (passed q e)) ∙ sym (in_two rows);
  tables = λ z. a;
  kept = λ z. absurd (z (passed q e));
}

-- a sheet that is not refused: its shape, and its tables
pub shape_passed : (rows : List ℤ) → refusal_of rows ≡ None → shape_refusal rows ≡ None
shape_passed rows e = or_none_left (shape_refusal rows) (link_refusal rows) (sym (in_two rows) ∙ e)

pub tables_of : (rows : List ℤ) {before after : SheetIndex} {v : Result Unit Refusal} → Indexing rows before v after → refusal_of rows ≡ None → Filled rows after
tables_of rows h e = h.tables (shape_passed rows e)
