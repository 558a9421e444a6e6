-- The call `margins`: what it answers for any rows and any lent buffer, and what it leaves in the buffer. Assumes nothing.
use Rattle.std.specs.Prelude.{Result, ℕ, ◌/◌, ◌≤◌, ◌≡◌, List, ℤ, length, Option}
use Rattle.refusals.specs.declared.Refusal.{Refusal}
use Rattle.refusals.specs.Lending.{answered, lent_after}
use Rattle.acceptance.specs.Refusals.{sheet_refusal, call_refusal}
use Rattle.margin_lines.specs.Margins.{margins, flat_margins}

-- 1 to 6 as for the check; 7 where the buffer has room for fewer lines
unfoldable pub margins_refusal : List ℤ → ℕ → Option Refusal
margins_refusal rows room = call_refusal rows (length (margins rows)) room

-- the answer, where the buffer has room for so many lines: a refusal, or the count of the lines
unfoldable pub margins_answer : List ℤ → ℕ → Result ℕ Refusal
margins_answer rows room = answered (margins_refusal rows room) (length (margins rows))

-- the buffer after the call: the lines, and what lay after them; a refusal changes no number. It has room for its whole threes
unfoldable pub margins_after : List ℤ → List ℤ → List ℤ
margins_after rows before = lent_after (margins_refusal rows (length before / 3)) (flat_margins (margins rows)) before

-- room for 800 lines is enough for any sheet: 7 never comes then
abbrev pub RoomForAll : Type 0
RoomForAll = (rows : List ℤ) (room : ℕ) → 800 ≤ room → margins_refusal rows room ≡ sheet_refusal rows
