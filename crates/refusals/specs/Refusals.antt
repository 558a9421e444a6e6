-- How a call refuses: for a reason, at the place of a row or a line, counted from 0. The reasons bear the trade's words, and each has its number for those
-- who call; docs/RULES.md says when each is given, and the pages that define the calls in what order. Each request adds its own reasons. Assumes nothing.
use Rattle.std.specs.Prelude.{ℕ, Bool, Option, None, Some, Result, Ok, Err}
use Rattle.loops.specs.Search.{some_if}
use Rattle.refusals.specs.declared.Reason.{Reason}
use Rattle.refusals.specs.declared.Reason.TheVariants.{Misshapen, UnknownKind, OutOfRange, Stray, Twice, Stretched, Full, Overlong, Misspelt, Crowded, Malformed, Undated, Overfull}
use Rattle.refusals.specs.declared.Refusal.{Refusal}

abbrev pub number_of : Reason → ℕ
-- of the rows
number_of Misshapen = 1
number_of UnknownKind = 2
number_of OutOfRange = 3
number_of Stray = 4
number_of Twice = 5
-- of a booking's derived time
number_of Stretched = 6
-- of the findings
number_of Full = 7
-- of a text
number_of Overlong = 8
number_of Misspelt = 9
number_of Crowded = 10
-- of an office calendar
number_of Malformed = 11
number_of Undated = 12
number_of Overfull = 13

abbrev pub at : Reason → ℕ → Refusal
at reason place = record { reason = reason; place = place }

-- that refusal where the test holds, else none
abbrev pub refuse : Bool → Reason → ℕ → Option Refusal
refuse test reason place = some_if test (at reason place)

-- what a verdict says
abbrev pub verdict_of : Result Unit Refusal → Option Refusal
verdict_of (Ok _) = None
verdict_of (Err e) = Some e
