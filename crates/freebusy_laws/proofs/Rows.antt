-- Each row passes refusals 2 and 3 of a sheet. Assumes nothing.
use Prim.Native.Nat.{ℕ, zero, suc, ◌+◌, ◌*◌, ◌/◌, ◌<◌}
use mathlib.Core.Bool.{Bool, true, false, cond, ◌&&◌, not}
use mathlib.Core.List.{List, [], ◌∷◌, ◌++◌}
use Rattle.std.specs.Prelude.{None, Result, Ok, Err}
use mathlib.Core.Path.{◌≡◌, refl, ◌∙◌}
use native.Mathlib.Omega.{arith}
use lib.Dec.{ltb, leb}
use lib.IntN.{ℤ, pos}
use lib.ListN.{length, get_or, drop, get_or-append}
use borrow.Author.Tests.{le-leb, lt-ltb}
use Rattle.loops.specs.Lists.{all_of, each}
use Rattle.loops.specs.Search.{or_else}
use Rattle.loops.proofs.BoolLaws.{and_left, and_right}
use Rattle.loops.proofs.PlaceLaws.{or_none_left, or_none_right}
use Rattle.loops.proofs.SearchLaws.{none_below}
use Rattle.line_buffer.specs.Lines.{flat_lines}
use Rattle.refusals.specs.Refusals.{refuse}
use Rattle.refusals.specs.declared.Reason.{Reason}
use Rattle.refusals.specs.declared.Reason.TheVariants.{OutOfRange, Overlong}
use Rattle.refusals.proofs.AnswerLaws.{unrefused, accepted_count}
use Rattle.rows.specs.Cells.{cell, is}
use Rattle.rows.specs.declared.Class.TheVariants.{Id, Instant}
use Rattle.rows.specs.Table.{class_of}
use Rattle.rows.specs.Ranges.{between, in_range, in_class}
use Rattle.sheet.specs.Refusals.{known_kind, bad_cell, half_part, out_of_range}
use Rattle.freebusy_periods.specs.Period.{window_of}
use Rattle.freebusy_periods.specs.declared.Span.{Span}
use Rattle.freebusy_periods.proofs.PeriodLaws.{window_in_range}
use Rattle.freebusy_lines.specs.Lines.{lines}
use Rattle.freebusy_components.specs.Components.{Busy, wrong_from}
use Rattle.freebusy.specs.Call.{Closure, window_closures, closures_of, periods_in, closures, closure_row, line_refusal, periods_refusal, freebusy_refusal, freebusy_answer, freebusy_after}
use Rattle.freebusy_laws.specs.Laws.{RowsPass}

-- ---- a closure's ends are instants

timely : Closure → Bool
timely c = leb c.start 4000000000000 && leb c.end 4000000000000

in_time_both : (c : Closure) → timely c ≡ true → (leb c.start 4000000000000 ≡ true) × (leb c.end 4000000000000 ≡ true)
unfolding timely
in_time_both c e = (and_left (leb c.start 4000000000000) _ e, and_right (leb c.start 4000000000000) _ e)

timely_window : (s : List ℕ) (w : Result Span Reason) → window_of s ≡ w → all_of timely (window_closures w) ≡ true
unfolding all_of timely
timely_window s (Err k) e = refl
timely_window s (Ok w) e =
    let h = window_in_range s w e in
    rw (le-leb w.start 4000000000000 (omega (arith, h.0, h.1)), le-leb w.end 4000000000000 h.1)

timely_of : (b : Busy) → all_of timely (closures_of b) ≡ true
unfolding closures_of all_of
timely_of b = go b.free
  where
    go : (f : Bool) → all_of timely (cond f [] (window_closures (window_of b.bytes))) ≡ true
    go true = refl
    go false = timely_window b.bytes (window_of b.bytes) refl

all_append : (a b : List Closure) → all_of timely a ≡ true → all_of timely b ≡ true → all_of timely (a ++ b) ≡ true
unfolding all_of
all_append [] b p q = q
all_append (x ∷ a) b p q =
    rw (and_left (timely x) (all_of timely a) p) (all_append a b (and_right (timely x) (all_of timely a) p) q)

timely_all : (bs : List Busy) → all_of timely (each closures_of bs) ≡ true
unfolding each all_of
timely_all [] = refl
timely_all (b ∷ bs) = all_append (closures_of b) (each closures_of bs) (timely_of b) (timely_all bs)

-- ---- the cells of a row

-- row k is that of a closure whose ends are instants
record Stands (resource : ℤ) (rows : List ℤ) (k : ℕ) : Type 0 where
  closure : Closure
  in_time : timely closure ≡ true
  cells : (j : ℕ) → j < 10 → get_or rows (k * 10 + j) (pos 0) ≡ get_or (closure_row resource closure) j (pos 0)

-- past the first row
one_on : (resource : ℤ) (c : Closure) (l : List ℤ) (k j : ℕ) → get_or (closure_row resource c ++ l) (suc k * 10 + j) (pos 0) ≡ get_or l (k * 10 + j) (pos 0)
one_on resource c l k j =
    let e : suc k * 10 + j ≡ suc (suc (suc (suc (suc (suc (suc (suc (suc (suc (k * 10 + j)))))))))) = omega arith in
    rw e

within_first : (resource : ℤ) (c : Closure) (l : List ℤ) (j : ℕ) → j < 10 → get_or (closure_row resource c ++ l) (0 * 10 + j) (pos 0) ≡ get_or (closure_row resource c) j (pos 0)
within_first resource c l j h = let e : 0 * 10 + j ≡ j = omega arith in rw e (get_or-append (closure_row resource c) l (pos 0) j h)

-- of the rows in front of a list, which stay as they are whatever lies after them
stands : (resource : ℤ) (cs : List Closure) (after : List ℤ) → all_of timely cs ≡ true → (k : ℕ) → k < length cs → Stands resource (flat_lines (closure_row resource) cs ++ after) k
unfolding all_of flat_lines
stands resource [] after t k h = absurd (omega arith)
stands resource (c ∷ cs) after t zero h =
    record { closure = c; in_time = and_left (timely c) (all_of timely cs) t; cells = within_first resource c (flat_lines (closure_row resource) cs ++ after) }
stands resource (c ∷ cs) after t (suc k) h =
    let s = stands resource cs after (and_right (timely c) (all_of timely cs) t) k (omega arith) in
    record { closure = s.closure; in_time = s.in_time; cells = λ j l. one_on resource c (flat_lines (closure_row resource) cs ++ after) k j ∙ s.cells j l }

-- ---- refusals 2 and 3

cell_is : (resource : ℤ) (rows : List ℤ) (k : ℕ) (s : Stands resource rows k) (j : ℕ) → j < 10 → cell rows k j ≡ get_or (closure_row resource s.closure) j (pos 0)
unfolding cell
cell_is resource rows k s j h = rw (lt-ltb j 10 h) (s.cells j h)

module _ (resource : ℤ) (rows : List ℤ) (k : ℕ) (i : in_class Id resource ≡ true) (s : Stands resource rows k) where
  in_cell : (j : ℕ) → j < 10 → in_class (class_of 15 j) (get_or (closure_row resource s.closure) j (pos 0)) ≡ true → bad_cell rows k j ≡ false
  unfolding bad_cell
  in_cell j h e = rw (cell_is resource rows k s 0 (omega arith), cell_is resource rows k s j h, e)

  instant_in : (n : ℕ) → leb n 4000000000000 ≡ true → in_class Instant (pos n) ≡ true
  unfolding in_class in_range between
  instant_in n e = rw (le-leb 0 n (omega arith), e)

  good : (j : ℕ) → j < 10 → bad_cell rows k j ≡ false
  unfolding in_class in_range between
  good zero h = in_cell 0 h refl
  good (suc zero) h = in_cell 1 h i
  good (suc (suc zero)) h = in_cell 2 h refl
  good (suc (suc (suc zero))) h = in_cell 3 h (instant_in s.closure.start (in_time_both s.closure s.in_time).0)
  good (suc (suc (suc (suc zero)))) h = in_cell 4 h (instant_in s.closure.end (in_time_both s.closure s.in_time).1)
  good (suc (suc (suc (suc (suc zero))))) h = in_cell 5 h refl
  good (suc (suc (suc (suc (suc (suc zero)))))) h = in_cell 6 h refl
  good (suc (suc (suc (suc (suc (suc (suc zero))))))) h = in_cell 7 h refl
  good (suc (suc (suc (suc (suc (suc (suc (suc zero)))))))) h = in_cell 8 h refl
  good (suc (suc (suc (suc (suc (suc (suc (suc (suc zero))))))))) h = in_cell 9 h refl
  good (suc (suc (suc (suc (suc (suc (suc (suc (suc (suc j)))))))))) h = absurd (omega arith)

  passes : (known_kind rows k ≡ true) × (out_of_range rows k ≡ false)
  unfolding known_kind out_of_range half_part is
  passes = (rw (cell_is resource rows k s 0 (omega arith)), rw (none_below (bad_cell rows k) 10 good, cell_is resource rows k s 0 (omega arith)))

-- ---- the law

known : (text : List ℕ) (resource : ℤ) (room : ℕ) → freebusy_refusal text resource room ≡ None → in_class Id resource ≡ true
unfolding freebusy_refusal
known text resource room e = go (in_class Id resource)
    (or_none_left (refuse (not (in_class Id resource)) OutOfRange 0) (or_else (line_refusal (wrong_from None 0 (lines text))) (periods_refusal room 0 (periods_in text)))
    (or_none_right (refuse (ltb 65536 (length text)) Overlong 0) (or_else (refuse (not (in_class Id resource)) OutOfRange 0) (or_else (line_refusal (wrong_from None 0 (lines text))) (periods_refusal room 0 (periods_in text)))) e))
  where
    go : (b : Bool) → refuse (not b) OutOfRange 0 ≡ None → b ≡ true
    go true e = refl
    go false e = absurd (let z : ◌≡◌ {A = ℕ} 0 1 = cc in omega arith)

pub rows_pass : RowsPass
unfolding freebusy_answer freebusy_after closures
rows_pass text resource lent n e k h =
    let o = freebusy_refusal text resource (length lent / 10) in
    let a = accepted_count o (length (closures text)) e in
    let u = unrefused o (length (closures text)) e in
    let cs = each closures_of (periods_in text) in
    rw u (passes resource _ k (known text resource (length lent / 10) u) (stands resource cs (drop (length (flat_lines (closure_row resource) cs)) lent) (timely_all (periods_in text)) k (omega (arith, a))))
