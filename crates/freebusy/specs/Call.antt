-- The call `read_freebusy`: what it answers for any bytes, any resource number and any lent numbers, and what it leaves in them. Assumes nothing.
use Rattle.std.specs.Prelude.{Result, Ok, Err, ℕ, ◌+◌, ◌/◌, cond, ◌&&◌, not, List, [], ◌∷◌, ltb, length, ℤ, pos, Option, None, Some}
use Rattle.loops.specs.Lists.{each}
use Rattle.loops.specs.Search.{or_else}
use Rattle.refusals.specs.Refusals.{at, refuse}
use Rattle.refusals.specs.declared.Reason.{Reason}
use Rattle.refusals.specs.declared.Reason.TheVariants.{OutOfRange, Overlong, Malformed, Overfull}
use Rattle.refusals.specs.declared.Refusal.{Refusal}
use Rattle.refusals.specs.Lending.{answered, lent_after}
use Rattle.rows.specs.declared.Class.TheVariants.{Id}
use Rattle.rows.specs.Ranges.{in_class}
use Rattle.line_buffer.specs.Lines.{flat_lines}
use Rattle.freebusy_lines.specs.Lines.{lines}
use Rattle.freebusy_periods.specs.Period.{window_of}
use Rattle.freebusy_periods.specs.declared.Span.{Span}
use Rattle.freebusy_components.specs.Components.{Busy, wrong_from, periods_from}

-- the periods of a text, in its order
unfoldable pub periods_in : List ℕ → List Busy
periods_in text = periods_from None 0 (lines text)

-- ---- the closures

-- a closure: from when to when
pub record Closure : Type 0 where
  pub start : ℕ
  pub end : ℕ

abbrev pub closure : ℕ → ℕ → Closure
closure a e = record { start = a; end = e }

-- of a window
abbrev pub window_closures : Result Span Reason → List Closure
window_closures (Ok w) = closure w.start w.end ∷ []
window_closures (Err k) = []

-- of a period: a FREE one has none
unfoldable pub closures_of : Busy → List Closure
closures_of b = cond b.free [] (window_closures (window_of b.bytes))

unfoldable pub closures : List ℕ → List Closure
closures text = each closures_of (periods_in text)

-- as a row of kind 15: a closed window of the resource
abbrev pub closure_row : ℤ → Closure → List ℤ
closure_row resource c =
    pos 15 ∷ resource ∷ pos 1 ∷ pos c.start ∷ pos c.end ∷ pos 0 ∷ pos 0 ∷ pos 0 ∷ pos 0 ∷ pos 0 ∷ []

-- ---- the refusals

-- 11: a line, the least of all
abbrev pub line_refusal : Option ℕ → Option Refusal
line_refusal None = None
line_refusal (Some p) = Some (at Malformed p)

-- 12, or 11 for an end not after its start, of a period of the line at place p
abbrev pub window_refusal : ℕ → Result Span Reason → Option Refusal
window_refusal p (Ok w) = None
window_refusal p (Err k) = Some (at k p)

-- a period, where n rows went before it and `room` rows are lent: its window, then 13 where it has a row and that does not fit
unfoldable pub period_refusal : ℕ → ℕ → Busy → Option Refusal
period_refusal room n b =
    or_else (window_refusal b.place (window_of b.bytes)) (refuse (not b.free && not (ltb n room)) Overfull b.place)

-- the first of the periods that is refused
unfoldable pub periods_refusal : ℕ → ℕ → List Busy → Option Refusal
periods_refusal room n [] = None
periods_refusal room n (b ∷ bs) = or_else (period_refusal room n b) (periods_refusal room (n + length (closures_of b)) bs)

-- 8; 3 for the resource number; 11 by line; then, all lines having passed, by period
unfoldable pub freebusy_refusal : List ℕ → ℤ → ℕ → Option Refusal
freebusy_refusal text resource room =
    or_else (refuse (ltb 65536 (length text)) Overlong 0)
    (or_else (refuse (not (in_class Id resource)) OutOfRange 0)
    (or_else (line_refusal (wrong_from None 0 (lines text))) (periods_refusal room 0 (periods_in text))))

-- ---- the call

-- the answer, where `room` rows are lent: a refusal, or the count of the rows
unfoldable pub freebusy_answer : List ℕ → ℤ → ℕ → Result ℕ Refusal
freebusy_answer text resource room = answered (freebusy_refusal text resource room) (length (closures text))

-- the lent numbers after the call: the rows, and what lay after them; a refusal changes none. Of the lent numbers the whole tens count
unfoldable pub freebusy_after : List ℕ → ℤ → List ℤ → List ℤ
freebusy_after text resource before =
    lent_after (freebusy_refusal text resource (length before / 10)) (flat_lines (closure_row resource) (closures text)) before
