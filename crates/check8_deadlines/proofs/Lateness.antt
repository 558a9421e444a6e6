-- What lateness is, of numbers; and what a task's row gives. Assumes nothing.
use Prim.Native.Nat.{ℕ, ◌-◌, ◌<◌}
use mathlib.Core.Path.{◌≡◌, refl, ap, sym, ◌∙◌}
use mathlib.Core.Bool.{Bool, true, false}
use mathlib.Core.List.{List, [], ◌++◌, foldl}
use Rattle.std.specs.Prelude.{Option, None, Some}
use native.Mathlib.Omega.{arith}
use lib.Dec.{ltb}
use lib.IntN.{ℤ, pos}
use borrow.Author.Tests.{lt-ltb, le-ltb}
use native.Mathlib.Decide.{dec_lt}
use Rattle.loops.specs.Lists.{given, each, option}
use Rattle.loops.specs.inner.Chain.{Silent}
use Rattle.calendar.specs.Clock.{clock}
use Rattle.findings.specs.declared.Violation.{Violation}
use Rattle.loops.proofs.ListLaws.{each_collect}
use Rattle.loops.proofs.NumberLaws.{gap}
use Rattle.findings.specs.inner.Told.{Told, tell, telling}
use Rattle.findings.proofs.Reporting.{tell_places}
use Rattle.chains.specs.Places.{places}
use Rattle.rows.specs.Cells.{row_count, num, is}
use Rattle.sheet.specs.Places.{of_kind}
use Rattle.model.specs.Sheet.{sheet}
use Rattle.model.specs.inner.Records.{maybe_at}
use Rattle.model.specs.Task.{task_at, tasks, tardiness_ms}
use Rattle.model.specs.Schedule.{task_completion_time, deadline_miss}
use Rattle.model.proofs.RowLaws.{task_row, task_none}
use Rattle.definition.specs.CheckDeadlines.{check_deadline, check_deadlines}
use Rattle.check8_deadlines.specs.inner.Late.{late_at}

-- lateness above 0 is a completion after the deadline
pub tardy : (d c : ℕ) → ltb d c ≡ ltb 0 (tardiness_ms clock (pos c) (Some (pos d)))
tardy d c = go (dec_lt d c) ∙ ap (ltb 0) (sym (gap d c))
  where
    go : Dec (d < c) → ltb d c ≡ ltb 0 (c - d)
    go (yes h) = lt-ltb d c h ∙ sym (lt-ltb 0 (c - d) (omega arith))
    go (no h) = le-ltb d c (omega arith) ∙ sym (le-ltb 0 (c - d) (omega arith))

module _ (rows : List ℤ) (k : ℕ) where
  reported : (x : Option ℤ) (d : Option ℤ) (f : Violation)
      → option x [] (λ completion. given (ltb 0 (tardiness_ms clock completion d)) f) ++ []
      ≡ given (option x false (λ completion. ltb 0 (tardiness_ms clock completion d))) f
  reported None d f = refl
  reported (Some c) d f = go (ltb 0 (tardiness_ms clock c d))
    where
      go : (b : Bool) → given b f ++ [] ≡ given b f
      go true = refl
      go false = refl

  pub deadline_found : is rows k 0 1 ≡ true
      → each (check_deadline clock (sheet rows)) (task_at (sheet rows) k) ≡ given (late_at rows k) (deadline_miss 8 (num rows k 1))
  unfolding each check_deadline late_at
  deadline_found h = rw (task_row rows k h) (reported (task_completion_time clock (sheet rows) (num rows k 1)) (maybe_at rows k 2) (deadline_miss 8 (num rows k 1)))

-- what is told of row k
abbrev pub deadline_at : List ℤ → ℕ → List Violation
deadline_at rows k = each (check_deadline clock (sheet rows)) (task_at (sheet rows) k)

pub deadline_silent : (rows : List ℤ) → Silent (of_kind rows 1) (deadline_at rows)
unfolding each of_kind
deadline_silent rows = record { still = λ k h. rw (task_none rows k h) }

pub deadlines_told : (rows : List ℤ) (t : Told) → foldl (telling (deadline_at rows)) t (places (of_kind rows 1) (row_count rows)) ≡ tell t (check_deadlines clock (sheet rows))
unfolding check_deadlines tasks
deadlines_told rows t =
    tell_places (of_kind rows 1) (deadline_at rows) (row_count rows) t (deadline_silent rows)
    ∙ ap (tell t) (sym (each_collect (check_deadline clock (sheet rows)) (task_at (sheet rows)) (row_count rows)))
