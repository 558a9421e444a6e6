-- What the steps of the reader come to, by their tests: verdicts, windows, the parts of a value, the lines of a text. Assumes nothing.
use Rattle.std.specs.Prelude.{Result, Ok, Err, IfOk, Option, None, Some}
use Rattle.std.specs.Result.{result_and}
use Prim.Native.Nat.{ℕ, ◌+◌, ◌^◌, ◌≤◌, ◌<◌}
use mathlib.Core.Bool.{Bool, true, false, cond, ◌&&◌, not}
use mathlib.Core.List.{List, [], ◌∷◌, map}
use mathlib.Core.Path.{◌≡◌, refl, sym, ap, ◌∙◌}
use native.Mathlib.Omega.{arith}
use native.Mathlib.Numerals.{add-one}
use lib.Dec.{ltb}
use lib.IntN.{ℤ, pos}
use lib.ListN.{length}
use mir.Facts.{to_z_pos, to_z-of_z}
use mir.Syntax.{w64}
use mir.Val.{SFits, to_z, of_z}
use borrow.Author.Tests.{not-true, not-false}
use Rattle.loops.specs.Search.{or_else}
use Rattle.line_buffer.specs.inner.Sink.{Sink, sink, put_line}
use Rattle.line_buffer.proofs.LineLaws.{lines_one, lines_none}
use Rattle.refusals.specs.Refusals.{refuse, verdict_of}
use Rattle.refusals.specs.declared.Reason.{Reason}
use Rattle.refusals.specs.declared.Reason.TheVariants.{Overfull}
use Rattle.refusals.specs.declared.Refusal.{Refusal}
use Rattle.text_fields.specs.Parts.{parts}
use Rattle.freebusy_lines.specs.Lines.{Line, sent_lines, unfolded, lines}
use Rattle.freebusy_periods.specs.Period.{window_of}
use Rattle.freebusy_periods.specs.declared.Span.{Span}
use Rattle.freebusy_property.specs.Property.{is_freebusy, is_free, value_of, periods_of}
use Rattle.freebusy_components.specs.Components.{Busy, busy, open_after, periods_at, periods_from}
use Rattle.freebusy_components.proofs.WalkLaws.{unfolded_all}
use Rattle.freebusy.specs.declared.Reading.{Reading}
use Rattle.freebusy.specs.Call.{closure, closure_row, window_closures, closures_of, window_refusal, period_refusal, periods_in}
use Rattle.freebusy.specs.inner.Reading.{put_closures, ReadOn, unread}
use Rattle.freebusy.proofs.ReadLaws.{Going, read_none, read_one, going_start, going_on, going_end}
use Rattle.freebusy.proofs.ShortLaws.{short_periods}

-- ---- a period

-- the refusal of the first that has one
pub verdict_and : (a v : Result Unit Refusal) {r : Result Unit Refusal} → r ≡ result_and a v → verdict_of r ≡ or_else (verdict_of a) (verdict_of v)
verdict_and a v e = ap verdict_of e ∙ go a
  where
    go : (a : Result Unit Refusal) → verdict_of (result_and a v) ≡ or_else (verdict_of a) (verdict_of v)
    go (Ok _) = refl
    go (Err x) = refl

-- one period more
pub period_read : (room : ℕ) (resource : ℤ) (p : ℕ) (free : Bool) (s : List ℕ) {rows rows' : List ℤ} (from : Reading) {to : Reading} {w : Result Span Reason} (v : Result Unit Refusal) → w ≡ window_of s
    → verdict_of v ≡ or_else (window_refusal p w) (refuse (not free && not (ltb from.count room)) Overfull p)
    → verdict_of to.refused ≡ or_else (verdict_of from.refused) (verdict_of v)
    → sink rows' to.count ≡ put_closures resource (sink rows from.count) (cond free [] (window_closures w))
    → ReadOn room resource rows from (busy p free s ∷ []) rows' to
unfolding period_refusal closures_of
period_read room resource p free s from v e j r n = read_one room resource from (busy p free s) (r ∙ (rw (j, e))) (rw e at n)

-- ---- the rows of a window

-- the row as the machine reads its numbers back
pub closure_put : (resource : ℤ) {start end : ℕ} (k : Sink) {k' : Sink}
    → k' ≡ put_line 10 k (pos 15 ∷ resource ∷ pos 1 ∷ to_z w64 start ∷ to_z w64 end ∷ pos 0 ∷ pos 0 ∷ pos 0 ∷ pos 0 ∷ pos 0 ∷ [])
    → start ≤ 4_000_000_000_000 → end ≤ 4_000_000_000_000 → k' ≡ put_closures resource k (closure start end ∷ [])
closure_put resource {start} {end} k e b d =
    let s : start < 2 ^ 63 = omega arith in
    let t : end < 2 ^ 63 = omega arith in
    (rw (to_z_pos w64 s, to_z_pos w64 t) at e) ∙ sym (lines_one 10 (closure_row resource) k (closure start end))

module _ (resource : ℤ) (k : Sink) (free : Bool) (w : Result Span Reason) where
  pub put_free : not free ≡ false → k ≡ put_closures resource k (cond free [] (window_closures w))
  put_free f = rw (not-false free f) (sym (lines_none 10 (closure_row resource) k))

  pub put_wrong : {r : Reason} → w ≡ Err r → k ≡ put_closures resource k (cond free [] (window_closures w))
  put_wrong s = rw s (go free)
    where
      go : (b : Bool) → k ≡ put_closures resource k (cond b [] [])
      go true = sym (lines_none 10 (closure_row resource) k)
      go false = sym (lines_none 10 (closure_row resource) k)

  -- its numbers are read back from their bits
  pub put_span : {v : Span} {k' : Sink} {kind : ℕ} → kind ≡ 15 → w ≡ Ok v → IfOk w (λ v. (v.start ≤ 4000000000000) × (v.end ≤ 4000000000000)) → not free ≡ true → SFits w64 resource
      → k' ≡ put_line 10 k (to_z w64 kind ∷ to_z w64 (of_z w64 resource) ∷ pos 1 ∷ to_z w64 v.start ∷ to_z w64 v.end ∷ pos 0 ∷ pos 0 ∷ pos 0 ∷ pos 0 ∷ pos 0 ∷ [])
      → k' ≡ put_closures resource k (cond free [] (window_closures w))
  put_span m s h f r q = let early = rw s at h in rw (s, not-true free f) (closure_put resource k (rw (m, to_z-of_z r) at q) early.0 early.1)

-- ---- the parts of a value

-- of a part that the iterator gave, and when it has no more
module _ {room : ℕ} {resource : ℤ} {rows₀ : List ℤ} {from : Reading} {all : List Busy} {rows : List ℤ} {so_far : Reading} (p : ℕ) (free : Bool)
    {left : List (List ℕ)} (g : Going room resource rows₀ from all rows so_far (map (busy p free) left)) where
  pub value_more : {s : List ℕ} {more : List (List ℕ)} → left ≡ s ∷ more → {rows' : List ℤ} {to : Reading}
      → ReadOn room resource rows so_far (busy p free s ∷ []) rows' to → room < 2 ^ 60 → Going room resource rows₀ from all rows' to (map (busy p free) more)
  value_more {s} e r small = going_on g small (busy p free s ∷ []) _ (ap (map (busy p free)) e) r

  pub value_last : left ≡ [] → ReadOn room resource rows₀ from all rows so_far
  value_last e = going_end g (ap (map (busy p free)) e)

-- ---- a line

module _ (room : ℕ) (resource : ℤ) (rows : List ℤ) (from : Reading) {b : Option ℕ} (p : ℕ) (l : List ℕ) where
  pub line_outside : b ≡ None → ReadOn room resource rows from (periods_at b p l) rows from
  line_outside e = rw e (read_none room resource rows from)

  module _ {q : ℕ} (e : b ≡ Some q) {t : Bool} (f : t ≡ is_freebusy l) where
    pub line_other : t ≡ false → ReadOn room resource rows from (periods_at b p l) rows from
    line_other h = rw (e, sym f ∙ h) (read_none room resource rows from)

    pub line_periods : {v : List ℕ} {g : Bool} {rows' : List ℤ} {to : Reading} → ReadOn room resource rows from (map (busy p g) (parts 44 v)) rows' to
        → v ≡ value_of l → g ≡ is_free l → t ≡ true → ReadOn room resource rows from (periods_at b p l) rows' to
    unfolding periods_of
    line_periods r v g h =
        let k : periods_at (Some q) p l ≡ map (busy p (is_free l)) (parts 44 (value_of l)) = rw (sym f ∙ h) in
        rw (e, k) (rw (v, g) at r)

-- a short one
pub short_read : (room : ℕ) (resource : ℤ) (rows : List ℤ) (from : Reading) (b : Option ℕ) (p : ℕ) (l : List ℕ) → length l < 8 → ReadOn room resource rows from (periods_at b p l) rows from
short_read room resource rows from b p l h = rw (short_periods l h b p) (read_none room resource rows from)

-- ---- the lines of a text

pub text_start : (room : ℕ) (resource : ℤ) (rows : List ℤ) (text : List ℕ) {left : List Line} → left ≡ sent_lines text
    → Going room resource rows unread (periods_in text) rows unread (periods_from None 0 (unfolded_all left))
unfolding periods_in lines
text_start room resource rows text e = rw e (going_start room resource rows unread (periods_in text))

module _ {room : ℕ} {resource : ℤ} {rows₀ : List ℤ} {from : Reading} {all : List Busy} {rows : List ℤ} {so_far : Reading} {left : List Line} (b : Option ℕ) (p : ℕ)
    (g : Going room resource rows₀ from all rows so_far (periods_from b p (unfolded_all left))) where
  pub text_end : left ≡ [] → ReadOn room resource rows₀ from all rows so_far
  unfolding periods_from
  text_end e = going_end g (rw e)

  pub text_on : {x : Line} {ls : List Line} → left ≡ x ∷ ls → {l : List ℕ} → l ≡ unfolded x.bytes → (k : ℕ) → k ≡ p → {rows' : List ℤ} {to : Reading} → ReadOn room resource rows so_far (periods_at b k l) rows' to
      → {b' : Option ℕ} → b' ≡ open_after b k l → {p' : ℕ} → p' ≡ p + 1 → room < 2 ^ 60 → Going room resource rows₀ from all rows' to (periods_from b' p' (unfolded_all ls))
  unfolding periods_from
  text_on e {l} u k q r o n small = going_on g small (periods_at b k l) _ (rw (e, n, add-one p, o, u, q)) r
