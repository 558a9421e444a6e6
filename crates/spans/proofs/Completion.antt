-- The completion time as two loops over places. Assumes nothing.
use Prim.Native.Nat.{ℕ}
use mathlib.Core.Path.{◌≡◌, refl, ap, sym, ◌∙◌}
use mathlib.Core.Bool.{Bool, true, false, cond}
use mathlib.Core.List.{List, [], ◌++◌, foldl, foldl-append}
use Rattle.std.specs.Prelude.{Option, None}
use lib.Dec.{eqb}
use lib.IntN.{ℤ, pos}
use Rattle.loops.specs.Lists.{given, each}
use Rattle.loops.specs.Range.{fold, collect}
use Rattle.loops.specs.inner.Chain.{only_at}
use Rattle.loops.proofs.ListLaws.{each_collect, foldl_collect}
use Rattle.loops.proofs.RangeLaws.{fold_ext}
use Rattle.calendar.specs.Clock.{clock}
use Rattle.rows.specs.Cells.{row_count, num, is}
use Rattle.sheet.specs.Places.{of_kind}
use Rattle.model.specs.Sheet.{sheet}
use Rattle.model.specs.Schedule.{assignment_at, assignments_below, assignments, span_at, time_only_below, time_only, later_of, latest, task_completion_time}
use Rattle.model.proofs.RowLaws.{assignment_row, assignment_none, span_row, span_none}
use Rattle.spans.specs.inner.Instants.{end_if}

module _ (rows : List ℤ) (task : ℕ) where
  ended : (b : Bool) (e : Option ℤ) (x : ℤ) → foldl (later_of clock) e (given b x ++ []) ≡ cond b (later_of clock e x) e
  ended true e x = refl
  ended false e x = refl

  booking_end : (e : Option ℤ) (k : ℕ)
      → foldl (later_of clock) e (each (λ a. given (eqb a.task task) a.end) (assignment_at (sheet rows) k))
      ≡ only_at (of_kind rows 23) (end_if rows 5 task) e k
  unfolding each only_at of_kind end_if is
  booking_end e k = go (is rows k 0 23) refl
    where
      go : (b : Bool) → is rows k 0 23 ≡ b
          → foldl (later_of clock) e (each (λ a. given (eqb a.task task) a.end) (assignment_at (sheet rows) k))
          ≡ cond (is rows k 0 23) (end_if rows 5 task e k) e
      go true h = rw (h, assignment_row rows k h) (ended (eqb (num rows k 2) task) e (pos (num rows k 5)))
      go false h = rw (h, assignment_none rows k h)

  span_end : (e : Option ℤ) (k : ℕ)
      → foldl (later_of clock) e (each (λ x. given (eqb x.task task) x.end) (span_at (sheet rows) k))
      ≡ only_at (of_kind rows 24) (end_if rows 4 task) e k
  unfolding each only_at of_kind end_if is
  span_end e k = go (is rows k 0 24) refl
    where
      go : (b : Bool) → is rows k 0 24 ≡ b
          → foldl (later_of clock) e (each (λ x. given (eqb x.task task) x.end) (span_at (sheet rows) k))
          ≡ cond (is rows k 0 24) (end_if rows 4 task e k) e
      go true h = rw (h, span_row rows k h) (ended (eqb (num rows k 2) task) e (pos (num rows k 4)))
      go false h = rw (h, span_none rows k h)

  pub completion : {m e : Option ℤ}
      → m ≡ fold (only_at (of_kind rows 23) (end_if rows 5 task)) None (row_count rows)
      → e ≡ fold (only_at (of_kind rows 24) (end_if rows 4 task)) m (row_count rows)
      → e ≡ task_completion_time clock (sheet rows) task
  unfolding task_completion_time latest assignments assignments_below time_only time_only_below
  completion {m} p q =
      q
      ∙ sym (fold_ext _ _ m (row_count rows) span_end)
      ∙ sym (foldl_collect (later_of clock) m _ (row_count rows))
      ∙ ap (foldl (later_of clock) m) (sym (each_collect _ (span_at (sheet rows)) (row_count rows)))
      ∙ ap (λ z. foldl (later_of clock) z (each (λ x. given (eqb x.task task) x.end) (collect (span_at (sheet rows)) (row_count rows))))
      (p
      ∙ sym (fold_ext _ _ None (row_count rows) booking_end)
      ∙ sym (foldl_collect (later_of clock) None _ (row_count rows))
      ∙ ap (foldl (later_of clock) None) (sym (each_collect _ (assignment_at (sheet rows)) (row_count rows))))
      ∙ sym
      (foldl-append (later_of clock) None
      (each (λ a. given (eqb a.task task) a.end) (collect (assignment_at (sheet rows)) (row_count rows)))
      (each (λ x. given (eqb x.task task) x.end) (collect (span_at (sheet rows)) (row_count rows))))
