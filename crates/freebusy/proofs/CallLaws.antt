-- Laws of the call: its ways out, by what was found. Assumes nothing.
use Rattle.std.specs.Prelude.{Err, Result, Ok, Option, None, Some}
use Prim.Native.Nat.{ℕ, ◌*◌, ◌/◌, ◌^◌, ◌<◌, ◌≤◌}
use mathlib.Core.Bool.{Bool, true, false, not}
use mathlib.Core.List.{List, ◌++◌}
use mathlib.Core.Path.{◌≡◌, refl, sym, ap, ◌∙◌}
use native.Mathlib.Omega.{arith}
use lib.Dec.{ltb}
use lib.IntN.{ℤ, pos, negsuc}
use lib.ListN.{length, drop}
use mir.Facts.{to_z-of_z}
use mir.Syntax.{w64}
use mir.Val.{SFits, to_z, of_z}
use borrow.Author.Tests.{lt-ltb, le-ltb, not-true, not-false}
use Rattle.loops.specs.Lists.{each}
use Rattle.loops.specs.Numbers.{to_nat}
use Rattle.loops.specs.Search.{or_else}
use Rattle.loops.proofs.ListLaws.{none_ahead}
use Rattle.loops.proofs.PlaceLaws.{or_none_right}
use Rattle.line_buffer.specs.Lines.{flat_lines}
use Rattle.line_buffer.specs.inner.Sink.{Sink}
use Rattle.line_buffer.proofs.Whole.{count_fits, flat_length, lines_whole}
use Rattle.refusals.specs.Refusals.{refuse, verdict_of, at}
use Rattle.refusals.specs.declared.Reason.TheVariants.{OutOfRange, Overlong, Malformed}
use Rattle.refusals.specs.declared.Refusal.{Refusal}
use Rattle.refusals.specs.Lending.{answered, lent_after}
use Rattle.rows.specs.declared.Class.TheVariants.{Id}
use Rattle.rows.specs.Ranges.{between, in_range, in_class}
use Rattle.freebusy_lines.specs.Lines.{lines}
use Rattle.freebusy_components.specs.Components.{wrong_from}
use Rattle.freebusy_components.specs.inner.Room.{space_after}
use Rattle.freebusy.specs.declared.Reading.{Reading}
use Rattle.freebusy.specs.Call.{Closure, periods_in, closures_of, closures, closure_row, line_refusal, periods_refusal, freebusy_refusal, freebusy_answer, freebusy_after}
use Rattle.freebusy.specs.inner.Reading.{ReadOn, unread, space_read, text_refusal}
use Rattle.freebusy.proofs.ReadLaws.{passed_fit}

-- ---- the periods

row_long : (resource : ℤ) (c : Closure) → length (closure_row resource c) ≡ 10
row_long resource c = refl

module _ (text : List ℕ) (resource : ℤ) (rows : List ℤ) {o o' : List ℤ} {g : Reading} (r : ReadOn (length rows / 10) resource o unread (periods_in text) o' g)
    (bytes : length rows * 8 < 2 ^ 63) where
  refusal_is : {v : Result Unit Refusal} → g.refused ≡ v → periods_refusal (length rows / 10) 0 (periods_in text) ≡ verdict_of v
  refusal_is e = sym r.refusal ∙ ap verdict_of e

  -- a period is refused: the first reading is lent none of the rows, and so leaves them as they were
  module _ {x : Refusal} (q : g.refused ≡ Err x) where
    pub refused_answer : Err x ≡ answered (periods_refusal (length rows / 10) 0 (periods_in text)) (length (closures text))
    refused_answer = rw (refusal_is q)

    pub refused_rows : (none : List ℤ) → length none ≡ 0
        → none ++ rows ≡ lent_after (periods_refusal (length rows / 10) 0 (periods_in text)) (flat_lines (closure_row resource) (closures text)) rows
    refused_rows none z = rw (refusal_is q) (none_ahead none rows z)

    pub refused_space : (space₀ : List ℕ) {space : List ℕ} → space ≡ space_after text space₀ → space ≡ space_read (periods_refusal (length rows / 10) 0 (periods_in text)) text space₀
    refused_space space₀ l = rw (refusal_is q) l

  -- all pass: a second reading fills the rows
  module _ {u : Unit {0}} (q : g.refused ≡ Ok u) where
    fits : length (closures text) ≤ length rows / 10
    unfolding closures
    fits = omega (arith, passed_fit (length rows / 10) resource (periods_in text) 0 (omega arith) (refusal_is q))

    -- the count of the first reading
    counted : g.count ≡ length (closures text)
    unfolding closures
    counted = omega (arith, fits, count_fits 10 (closure_row resource) o (each closures_of (periods_in text)) r.numbers)

    pub read_answer : Ok g.count ≡ answered (periods_refusal (length rows / 10) 0 (periods_in text)) (length (closures text))
    read_answer = rw (refusal_is q, counted)

    pub read_rows : (none : List ℤ) → length none ≡ 0 → {rows' : List ℤ} {h : Reading} → ReadOn (length rows / 10) resource (none ++ rows) unread (periods_in text) rows' h
        → rows' ≡ lent_after (periods_refusal (length rows / 10) 0 (periods_in text)) (flat_lines (closure_row resource) (closures text)) rows
    unfolding closures
    read_rows none z s =
        let cs = each closures_of (periods_in text) in
        let m = flat_length 10 (closure_row resource) (omega arith) (row_long resource) cs in
        rw (refusal_is q)
        (ap (λ (k : Sink). k.buf) ((rw (none_ahead none rows z) at s.numbers)
        ∙ lines_whole 10 (closure_row resource) (omega arith) (row_long resource) rows cs (omega (arith, fits)) (omega arith))
        ∙ ap (λ (n : ℕ). flat_lines (closure_row resource) cs ++ drop n rows) (sym m))

    pub read_space : (space₀ : List ℕ) {space space' : List ℕ} → space ≡ space_after text space₀ → space' ≡ space_after text space
        → space' ≡ space_read (periods_refusal (length rows / 10) 0 (periods_in text)) text space₀
    read_space space₀ l m = rw (refusal_is q) (m ∙ ap (space_after text) l)

-- ---- the lines, then the periods

module _ (text : List ℕ) (resource : ℤ) (rows : List ℤ) {w : Option ℕ} (f : w ≡ wrong_from None 0 (lines text)) where
  module _ {p : ℕ} (q : w ≡ Some p) where
    pub wrong_answer : {x : Refusal} → x ≡ at Malformed p → Err x ≡ answered (text_refusal text (length rows / 10)) (length (closures text))
    wrong_answer a = rw (a, sym f ∙ q)

    pub wrong_rows : rows ≡ lent_after (text_refusal text (length rows / 10)) (flat_lines (closure_row resource) (closures text)) rows
    wrong_rows = rw (sym f ∙ q)

  module _ (q : w ≡ None) where
    pub passed_answer : {a : Result ℕ Refusal} → a ≡ answered (periods_refusal (length rows / 10) 0 (periods_in text)) (length (closures text))
        → a ≡ answered (text_refusal text (length rows / 10)) (length (closures text))
    passed_answer r = rw (sym f ∙ q) r

    pub passed_rows : {rows' : List ℤ} → rows' ≡ lent_after (periods_refusal (length rows / 10) 0 (periods_in text)) (flat_lines (closure_row resource) (closures text)) rows
        → rows' ≡ lent_after (text_refusal text (length rows / 10)) (flat_lines (closure_row resource) (closures text)) rows
    passed_rows r = rw (sym f ∙ q) r

-- ---- the resource's number

id_pos : (z : ℤ) → in_class Id z ≡ true → pos (to_nat z) ≡ z
unfolding in_class in_range between
id_pos (pos n) e = refl
id_pos (negsuc n) e = absurd (let z : ◌≡◌ {A = ℕ} 0 1 = cc in omega arith)

-- what a test of it told: the machine reads the number back
module _ (z : ℤ) (f : SFits w64 z) where
  pub class_read : {b : Bool} → b ≡ in_class Id (to_z w64 (of_z w64 z)) → b ≡ in_class Id z
  class_read e = e ∙ ap (in_class Id) (to_z-of_z f)

  module _ {b : Bool} (i : b ≡ in_class Id (to_z w64 (of_z w64 z))) where
    is_stray : not b ≡ true → in_class Id z ≡ false
    is_stray h = sym (class_read i) ∙ not-true b h

    is_ours : not b ≡ false → in_class Id z ≡ true
    is_ours h = sym (class_read i) ∙ not-false b h

-- ---- the call

module _ (text : List ℕ) (resource : ℤ) (rows : List ℤ) where
  -- 8
  pub long_answer : {x : Refusal} → x ≡ at Overlong 0 → 65536 < length text → Err x ≡ freebusy_answer text resource (length rows / 10)
  unfolding freebusy_answer freebusy_refusal
  long_answer a h = rw (a, lt-ltb 65536 (length text) h)

  pub long_rows : 65536 < length text → rows ≡ freebusy_after text resource rows
  unfolding freebusy_after freebusy_refusal
  long_rows h = rw (lt-ltb 65536 (length text) h)

  module _ {b : Bool} (i : b ≡ in_class Id (to_z w64 (of_z w64 resource))) (fit : SFits w64 resource) (short : length text ≤ 65536) where
    -- 3
    pub stray_answer : {x : Refusal} → x ≡ at OutOfRange 0 → not b ≡ true → Err x ≡ freebusy_answer text resource (length rows / 10)
    unfolding freebusy_answer freebusy_refusal
    stray_answer a h = rw (a, le-ltb 65536 (length text) short, is_stray resource fit i h)

    pub stray_rows : not b ≡ true → rows ≡ freebusy_after text resource rows
    unfolding freebusy_after freebusy_refusal
    stray_rows h = rw (le-ltb 65536 (length text) short, is_stray resource fit i h)

    -- by line and by period
    module _ (h : not b ≡ false) where
      pub call_answer : {a : Result ℕ Refusal} → a ≡ answered (text_refusal text (length rows / 10)) (length (closures text))
          → a ≡ freebusy_answer text resource (length rows / 10)
      unfolding freebusy_answer freebusy_refusal
      call_answer r = rw (le-ltb 65536 (length text) short, is_ours resource fit i h) r

      pub call_rows : {rows' : List ℤ} → rows' ≡ lent_after (text_refusal text (length rows / 10)) (flat_lines (closure_row resource) (closures text)) rows
          → rows' ≡ freebusy_after text resource rows
      unfolding freebusy_after freebusy_refusal
      call_rows r = rw (le-ltb 65536 (length text) short, is_ours resource fit i h) r

-- the resource that was handed on, as the machine reads it back
module _ (text : List ℕ) (resource : ℤ) (f : SFits w64 resource) where
  pub answer_asked : (room : ℕ) {a : Result ℕ Refusal} → a ≡ freebusy_answer text (to_z w64 (of_z w64 resource)) room → a ≡ freebusy_answer text resource room
  answer_asked room e = rw (to_z-of_z f) at e

  pub after_asked : (rows : List ℤ) {rows' : List ℤ} → rows' ≡ freebusy_after text (to_z w64 (of_z w64 resource)) rows → rows' ≡ freebusy_after text resource rows
  after_asked rows e = rw (to_z-of_z f) at e

-- an accepted calendar has no more rows than are lent
pub accepted_few : (text : List ℕ) (resource : ℤ) (room : ℕ) {n : ℕ} → freebusy_answer text resource room ≡ Ok n → n ≤ room
unfolding freebusy_answer freebusy_refusal closures
accepted_few text resource room {n} e = go (freebusy_refusal text resource room) refl e
  where
    go : (o : Option Refusal) → freebusy_refusal text resource room ≡ o → answered o (length (closures text)) ≡ Ok n → n ≤ room
    go None p q =
        let a = or_none_right (refuse (ltb 65536 (length text)) Overlong 0) (or_else (refuse (not (in_class Id resource)) OutOfRange 0) (or_else (line_refusal (wrong_from None 0 (lines text))) (periods_refusal room 0 (periods_in text)))) p in
        let b = or_none_right (refuse (not (in_class Id resource)) OutOfRange 0) (or_else (line_refusal (wrong_from None 0 (lines text))) (periods_refusal room 0 (periods_in text))) a in
        let d = or_none_right (line_refusal (wrong_from None 0 (lines text))) (periods_refusal room 0 (periods_in text)) b in
        let k : length (closures text) ≡ n = cc in
        omega (arith, passed_fit room (pos 0) (periods_in text) 0 (omega arith) d)
    go (Some x) p q = absurd (let z : ◌≡◌ {A = ℕ} 0 1 = cc in omega arith)
