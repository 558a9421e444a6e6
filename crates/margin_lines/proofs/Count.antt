-- A sheet has no more margins than rows: each is of a row, a task's of its own row and a resource's of its first booking, and no row is both. Assumes nothing.
use Prim.Native.Nat.{ℕ, ◌+◌, ◌≤◌}
use mathlib.Core.Path.{◌≡◌, refl}
use mathlib.Core.Bool.{Bool, true, false}
use mathlib.Core.List.{List, [], ◌∷◌, append-nil}
use Rattle.std.specs.Prelude.{Option, None, Some}
use native.Mathlib.Omega.{arith}
use borrow.Author.Tests.{eqb-true}
use lib.IntN.{ℤ, ◌-ℤ◌}
use lib.ListN.{length, length-append}
use Rattle.loops.specs.Lists.{option, each}
use Rattle.loops.proofs.BoolLaws.{and_left}
use Rattle.loops.proofs.ListLaws.{each_collect}
use Rattle.loops.proofs.RangeLaws.{one_a_place}
use Rattle.calendar.specs.Clock.{clock}
use Rattle.rows.specs.Cells.{row_count, num, is}
use Rattle.model.specs.Sheet.{sheet}
use Rattle.model.specs.Task.{Task, task_at, tasks}
use Rattle.model.specs.inner.Records.{task_of}
use Rattle.model.specs.Schedule.{task_completion_time}
use Rattle.model.proofs.RowLaws.{task_row, task_none}
use Rattle.load.specs.Load.{booked_at, booked_resources}
use Rattle.load.specs.inner.Firsts.{is_first}
use Rattle.load.proofs.Firsts.{booked_at_lem}
use Rattle.margin_lines.specs.Margins.{TASK, margin_of, task_margin, resource_margin, margin_lines, margins}

-- a task has one margin or none
task_one : (rows : List ℤ) (t : Task ℤ) → length (task_margin clock (sheet rows) t) ≤ 1
unfolding task_margin
task_one rows t = go t.deadline (task_completion_time clock (sheet rows) t.id)
  where
    go : (deadline completion : Option ℤ) → length (option deadline [] λ d. option completion [] λ c. margin_of TASK t.id (d -ℤ c) ∷ []) ≤ 1
    go None completion = omega arith
    go (Some d) None = omega arith
    go (Some d) (Some c) = omega arith

not_both : (rows : List ℤ) (k : ℕ) → is rows k 0 1 ≡ true → is_first rows k ≡ true → ⊥
unfolding is is_first
not_both rows k h f = omega (arith, eqb-true (num rows k 0) 1 h, eqb-true (num rows k 0) 23 (and_left (is rows k 0 23) _ f))

-- the margins of a row: its task's, or its resource's
row_one : (rows : List ℤ) (k : ℕ)
    → length (each (task_margin clock (sheet rows)) (task_at (sheet rows) k)) + length (each (resource_margin clock (sheet rows)) (booked_at (sheet rows) k)) ≤ 1
unfolding each resource_margin
row_one rows k = go (is rows k 0 1) refl (is_first rows k) refl
  where
    go : (t : Bool) → is rows k 0 1 ≡ t → (b : Bool) → is_first rows k ≡ b
        → length (each (task_margin clock (sheet rows)) (task_at (sheet rows) k)) + length (each (resource_margin clock (sheet rows)) (booked_at (sheet rows) k)) ≤ 1
    go true h true f = absurd (not_both rows k h f)
    go true h false f = rw (task_row rows k h, booked_at_lem rows k, f, append-nil) (omega (arith, task_one rows (task_of rows k)))
    go false h true f = rw (task_none rows k h, booked_at_lem rows k, f) (omega arith)
    go false h false f = rw (task_none rows k h, booked_at_lem rows k, f) (omega arith)

pub margins_short : (rows : List ℤ) → length (margins rows) ≤ row_count rows
unfolding margins margin_lines tasks booked_resources
margins_short rows =
    rw (each_collect (task_margin clock (sheet rows)), each_collect (resource_margin clock (sheet rows)), length-append)
    (one_a_place _ _ (row_one rows) (row_count rows))
