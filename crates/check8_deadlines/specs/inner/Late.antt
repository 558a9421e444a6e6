-- The test of `check_deadlines` for one task, by its row. Assumes nothing.
use Rattle.std.specs.Prelude.{ℕ, Bool, false, List, ltb, ℤ}
use Rattle.loops.specs.Lists.{option}
use Rattle.calendar.specs.Clock.{clock}
use Rattle.rows.specs.Cells.{num}
use Rattle.model.specs.Sheet.{sheet}
use Rattle.model.specs.inner.Records.{maybe_at}
use Rattle.model.specs.Task.{tardiness_ms}
use Rattle.model.specs.Schedule.{task_completion_time}

unfoldable pub late_at : List ℤ → ℕ → Bool
late_at rows k =
    option (task_completion_time clock (sheet rows) (num rows k 1)) false
    λ completion. ltb 0 (tardiness_ms clock completion (maybe_at rows k 2))
