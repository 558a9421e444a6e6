-- How far margins reach in an accepted sheet. Assumes nothing.
use Prim.Native.Nat.{ℕ}
use mathlib.Core.Path.{◌≡◌, refl}
use mathlib.Core.Bool.{Bool, true, false, false≢true}
use mathlib.Core.List.{List, [], ◌∷◌, append-nil}
use Rattle.std.specs.Prelude.{Option, None, Some}
use native.Mathlib.Omega.{arith}
use borrow.Author.Tests.{leb-true, le-leb}
use lib.IntN.{ℤ, pos, negsuc, ◌-ℤ◌, nat_abs}
use Rattle.loops.specs.Lists.{all_of, option, each}
use Rattle.loops.proofs.IntegerLaws.{left_size, apart}
use Rattle.loops.proofs.ListLaws.{each_collect}
use Rattle.loops.proofs.PartLaws.{all_each, all_collect}
use Rattle.calendar.specs.Clock.{clock}
use Rattle.rows.specs.Cells.{row_count, num, is}
use Rattle.sheet.specs.inner.Accepted.{Accepted}
use Rattle.model.specs.Sheet.{sheet}
use Rattle.model.specs.Task.{task_at, tasks}
use Rattle.model.specs.Schedule.{task_completion_time}
use Rattle.model.specs.inner.Records.{maybe_at}
use Rattle.model.proofs.RowLaws.{task_row, task_none}
use Rattle.load.specs.Load.{cap_of, peak, booked_resources}
use Rattle.acceptance.proofs.Order.{sheet_accepted}
use Rattle.margin_lines.specs.Margins.{TASK, margin_of, task_margin, resource_margin}
use Rattle.margin_lines.specs.Reach.{within, ReachOfAccepted}
use Rattle.margin_lines.proofs.Bounds.{early, deadline_early, completion_early}
use Rattle.margin_lines.proofs.Peaks.{cap_most, peak_most}

module _ (rows : List ℤ) (acc : Accepted rows) where
  -- the task of row k, if it is one
  task_within : (k : ℕ) → all_of (within 4000000000000) (each (task_margin clock (sheet rows)) (task_at (sheet rows) k)) ≡ true
  unfolding all_of each task_margin early
  task_within k = go (is rows k 0 1) refl
    where
      one : (deadline completion : Option ℤ) → early deadline ≡ true → early completion ≡ true
          → all_of (within 4000000000000) (option deadline [] λ d. option completion [] λ c. margin_of TASK (num rows k 1) (d -ℤ c) ∷ []) ≡ true
      one None completion e f = refl
      one (Some d) None e f = refl
      one (Some (pos d)) (Some (pos c)) e f =
          rw (le-leb (nat_abs (pos d -ℤ pos c)) 4000000000000 (apart d c 4000000000000 (leb-true d 4000000000000 e) (leb-true c 4000000000000 f)))
      one (Some (pos d)) (Some (negsuc c)) e f = absurd (false≢true f)
      one (Some (negsuc d)) (Some c) e f = absurd (false≢true e)

      go : (b : Bool) → is rows k 0 1 ≡ b → all_of (within 4000000000000) (each (task_margin clock (sheet rows)) (task_at (sheet rows) k)) ≡ true
      go true h =
          rw (task_row rows k h, append-nil)
          (one (maybe_at rows k 2) (task_completion_time clock (sheet rows) (num rows k 1)) (deadline_early rows acc k h) (completion_early rows acc (num rows k 1)))
      go false h = rw (task_none rows k h)

  tasks_within : all_of (within 4000000000000) (each (task_margin clock (sheet rows)) (tasks (sheet rows))) ≡ true
  unfolding tasks
  tasks_within =
      rw (each_collect (task_margin clock (sheet rows)) (task_at (sheet rows)) (row_count rows)) (all_collect (within 4000000000000) _ task_within (row_count rows))

  resource_within : (x : ℕ) → all_of (within 801000000) (resource_margin clock (sheet rows) x) ≡ true
  unfolding all_of resource_margin
  resource_within x =
      let z : ℤ = cap_of (sheet rows) x in
      let n : ℕ = peak clock (sheet rows) x in
      rw (le-leb (nat_abs (cap_of (sheet rows) x -ℤ pos (peak clock (sheet rows) x))) 801000000 (omega (arith, left_size z n, cap_most rows acc x {c = z} refl, peak_most rows acc x)))

pub reach : ReachOfAccepted
reach rows passed =
    let acc : Accepted rows = sheet_accepted rows passed in
    record {
      tasks = tasks_within rows acc;
      resources = all_each (within 801000000) (resource_margin clock (sheet rows)) (resource_within rows acc) (booked_resources (sheet rows));
    }
