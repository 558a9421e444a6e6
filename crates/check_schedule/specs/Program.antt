-- What the program prints of rows: it lends room for 2,000 findings. Of a text it prints `printed_text printed_sheet` (text_program). Assumes nothing.
use Rattle.std.specs.Prelude.{ℕ, List, ℤ}
use Rattle.findings.specs.Findings.{flat}
use Rattle.definition.specs.CheckSchedule.{findings}
use Rattle.feasibility.specs.Call.{check_answer}
use Rattle.printing.specs.Printed.{printed}

-- the answer of the call, and the definition's findings, line for line
unfoldable pub printed_sheet : List ℤ → List ℕ
printed_sheet rows = printed (check_answer rows 2000) (flat (findings rows))
