-- The refusals of a call on a sheet, in order: 1 to 5 of the rows, 6 of the derived times, 7 of the lines that are found. Assumes nothing.
use Rattle.std.specs.Prelude.{ℕ, List, ltb, ℤ}
use Rattle.std.specs.Prelude.{Option}
use Rattle.loops.specs.Search.{or_else}
use Rattle.refusals.specs.Refusals.{refuse}
use Rattle.refusals.specs.declared.Reason.TheVariants.{Full}
use Rattle.refusals.specs.declared.Refusal.{Refusal}
use Rattle.sheet.specs.Refusals.{refusal_of}
use Rattle.derived_times.specs.Times.{time_refusal}

-- 1 to 6, of a sheet by itself: a sheet that none of them refuses is accepted
unfoldable pub sheet_refusal : List ℤ → Option Refusal
sheet_refusal rows = or_else (refusal_of rows) (time_refusal rows)

-- 1 to 7, of a sheet in which so many lines are found, and of a buffer that has room for `room` of them
unfoldable pub call_refusal : List ℤ → ℕ → ℕ → Option Refusal
call_refusal rows lines room = or_else (sheet_refusal rows) (refuse (ltb room lines) Full 0)
