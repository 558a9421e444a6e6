-- The call `check_schedule`: what it answers for any rows and any lent buffer, and what it leaves in the buffer. Assumes nothing.
use Rattle.std.specs.Prelude.{Result, ℕ, ◌/◌, List, ℤ, length}
use Rattle.refusals.specs.declared.Refusal.{Refusal}
use Rattle.refusals.specs.Lending.{answered, lent_after}
use Rattle.findings.specs.Findings.{flat}
use Rattle.definition.specs.CheckSchedule.{findings}
use Rattle.feasibility.specs.Refusals.{refusal}

-- the answer, where the buffer has room for so many findings: a refusal, or the count of the definition's list
unfoldable pub check_answer : List ℤ → ℕ → Result ℕ Refusal
check_answer rows room = answered (refusal rows room) (length (findings rows))

-- the buffer after the call, which has room for its whole fours: the definition's list, line for line, and what lay after it; a refusal changes no number
unfoldable pub findings_after : List ℤ → List ℤ → List ℤ
findings_after rows before = lent_after (refusal rows (length before / 4)) (flat (findings rows)) before
