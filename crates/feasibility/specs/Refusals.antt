-- The refusals of the call, in order: 1 to 6 of the sheet, 7 of the findings. Assumes nothing.
use Rattle.std.specs.Prelude.{ℕ, List, ℤ, length, Option}
use Rattle.refusals.specs.declared.Refusal.{Refusal}
use Rattle.acceptance.specs.Refusals.{call_refusal}
use Rattle.definition.specs.CheckSchedule.{findings}

-- of a sheet and of a buffer that has room for so many findings
unfoldable pub refusal : List ℤ → ℕ → Option Refusal
refusal rows room = call_refusal rows (length (findings rows)) room
