-- What is told of a task, and of a resource. Assumes nothing.
use Prim.Native.Nat.{ℕ, ◌^◌, ◌<◌, ◌≤◌}
use mathlib.Core.Path.{◌≡◌, ap, sym, ◌∙◌}
use mathlib.Core.Bool.{true}
use mathlib.Core.List.{List, [], ◌∷◌, foldl}
use Rattle.std.specs.Prelude.{Option, None, Some}
use native.Mathlib.Omega.{arith}
use lib.IntN.{ℤ, pos, nat_abs, ◌-ℤ◌}
use mir.Syntax.{w64}
use mir.Val.{SFits, to_z, of_z}
use mir.Facts.{to_z-of_z, to_z_pos}
use lib.Signed.{lt_z}
use Rattle.loops.specs.Lists.{each}
use Rattle.loops.specs.inner.Chain.{Silent}
use Rattle.loops.proofs.ListLaws.{each_collect}
use Rattle.chains.specs.Places.{places}
use Rattle.lent_room.specs.declared.lent_list.LentList.{LentList}
use Rattle.calendar.specs.Clock.{clock}
use Rattle.line_buffer.specs.inner.Sink.{put_line}
use Rattle.line_buffer.proofs.LineLaws.{lines_one, lines_append}
use Rattle.line_buffer.proofs.Telling.{tell_none, tell_places}
use Rattle.rows.specs.Cells.{row_count, num, is}
use Rattle.sheet.specs.Places.{of_kind}
use Rattle.sheet.specs.Refusals.{refusal_of}
use Rattle.model.specs.Sheet.{sheet}
use Rattle.model.specs.Task.{task_at, tasks}
use Rattle.model.specs.Schedule.{task_completion_time}
use Rattle.model.specs.inner.Records.{maybe_at}
use Rattle.model.proofs.Accepting.{accepted}
use Rattle.model.proofs.RowLaws.{task_row, task_none}
use Rattle.load.specs.Load.{bookings_on, peak_of, cap_of, booked_resources}
use Rattle.load.specs.declared.booking.Booking.{Booking}
use Rattle.load.specs.inner.Firsts.{is_first}
use Rattle.load.specs.inner.Lent.{lent}
use Rattle.load.proofs.Told.{peak_is, booked_told, booked_silent, booked_first, booked_all}
use Rattle.spans.specs.inner.Instants.{meant}
use Rattle.margin_lines.specs.declared.lines.Margin.{Margin}
use Rattle.margin_lines.specs.Margins.{TASK, RESOURCE, three, margin_of, task_margin, resource_margin, margin_lines, margins}
use Rattle.margin_lines.specs.inner.Sink.{Sink, emit_margins}
use Rattle.margin_lines.specs.inner.Told.{Told, tell, telling}
use Rattle.margin_lines.proofs.Bounds.{deadline_signed}
use Rattle.margin_lines.proofs.Peaks.{peak_most, cap_most}

-- what the code wrote: the numbers as the machine reads them back
pub margin_read : (s : Sink) (m : Margin) {s' : Sink} → s' ≡ put_line 3 s (to_z w64 m.of ∷ to_z w64 m.id ∷ to_z w64 (of_z w64 m.margin) ∷ [])
    → m.of < 2 ^ 63 → m.id < 2 ^ 63 → SFits w64 m.margin → s' ≡ emit_margins s (m ∷ [])
margin_read s m h a b f = (rw (to_z_pos w64 a, to_z_pos w64 b, to_z-of_z f) at h) ∙ sym (lines_one 3 three s m)

module _ (rows : List ℤ) where
  -- ---- of row k, where it is a task

  abbrev pub task_told : ℕ → List Margin
  task_told k = each (task_margin clock (sheet rows)) (task_at (sheet rows) k)

  module _ (k : ℕ) (h : is rows k 0 1 ≡ true) (t : Told) {e : Option ℕ} (m : meant e ≡ maybe_at rows k 2) where
    pub no_deadline : e ≡ None → t ≡ tell t (task_told k)
    unfolding each task_margin
    no_deadline q = rw (task_row rows k h, sym m ∙ ap meant q) (sym (tell_none 3 three t))

    module _ {d : ℕ} (q : e ≡ Some d) {id : ℕ} (i : id ≡ num rows k 1) {f : Option ℕ} (n : meant f ≡ task_completion_time clock (sheet rows) id) where
      pub unplanned : f ≡ None → t ≡ tell t (task_told k)
      unfolding each task_margin
      unplanned r = rw (task_row rows k h, sym m ∙ ap meant q, ← i, sym n ∙ ap meant r) (sym (tell_none 3 three t))

      pub task_line : {c : ℕ} {z : ℤ} {x : Margin} {t' : Told} → t' ≡ tell t (x ∷ []) → x ≡ margin_of TASK id (to_z w64 (of_z w64 z)) → z ≡ to_z w64 d -ℤ pos c → f ≡ Some c
          → refusal_of rows ≡ None → SFits w64 z → t' ≡ tell t (task_told k)
      unfolding each task_margin
      task_line u w x r acc g =
          rw (task_row rows k h, sym m ∙ ap meant q, ← i, sym n ∙ ap meant r, ← (rw (deadline_signed rows (accepted rows acc) k h m q) at x))
          (u ∙ ap (λ x. tell t (x ∷ [])) (rw (to_z-of_z g) at w))

  pub task_silent : Silent (of_kind rows 1) task_told
  unfolding each of_kind
  task_silent = record { still = λ k h. rw (task_none rows k h) }

  pub tasks_told : (t : Told) → foldl (telling task_told) t (places (of_kind rows 1) (row_count rows)) ≡ tell t (each (task_margin clock (sheet rows)) (tasks (sheet rows)))
  unfolding tasks
  tasks_told t =
      tell_places 3 three (of_kind rows 1) task_told (row_count rows) t task_silent
      ∙ ap (tell t) (sym (each_collect (task_margin clock (sheet rows)) (task_at (sheet rows)) (row_count rows)))

  -- ---- of a resource

  module _ (x : ℕ) where
    pub peak_within : {p : ℕ} (b : LentList Booking 800) → lent b ≡ bookings_on (sheet rows) x → p ≡ peak_of lt_z (lent b) → refusal_of rows ≡ None → p ≤ 4000000000000
    peak_within b g e a = omega (arith, peak_is rows x b g e, peak_most rows (accepted rows a) x)

    pub cap_within : {c : ℤ} → c ≡ cap_of (sheet rows) x → refusal_of rows ≡ None → SFits w64 c → nat_abs (to_z w64 (of_z w64 c)) ≤ 4000000000000
    cap_within e a f = rw (to_z-of_z f) (omega (arith, cap_most rows (accepted rows a) x e))

    -- its line, by its limit and by the bookings that were gathered
    pub resource_told_lem : (s : Sink) {s' : Sink} {c z : ℤ} {p : ℕ} (b : LentList Booking 800) → s' ≡ emit_margins s (margin_of RESOURCE x (to_z w64 (of_z w64 z)) ∷ [])
        → z ≡ to_z w64 (of_z w64 c) -ℤ pos p → c ≡ cap_of (sheet rows) x → lent b ≡ bookings_on (sheet rows) x → p ≡ peak_of lt_z (lent b) → SFits w64 c → SFits w64 z
        → s' ≡ emit_margins s (resource_margin clock (sheet rows) x)
    unfolding resource_margin
    resource_told_lem s b t q e g p f h = rw (← e, ← peak_is rows x b g p, ← (rw (to_z-of_z f) at q)) (rw (to_z-of_z h) at t)

  -- ---- of row k, where it is the first booking of its resource

  unfoldable pub resource_told : ℕ → List Margin
  resource_told = booked_told rows (resource_margin clock (sheet rows))

  pub resource_first : (k : ℕ) → is_first rows k ≡ true → resource_told k ≡ resource_margin clock (sheet rows) (num rows k 3)
  unfolding resource_told
  resource_first k h = booked_first rows (resource_margin clock (sheet rows)) k h

  pub resources_told : (t : Told) → foldl (telling resource_told) t (places (is_first rows) (row_count rows))
      ≡ tell t (each (resource_margin clock (sheet rows)) (booked_resources (sheet rows)))
  unfolding resource_told
  resources_told t =
      tell_places 3 three (is_first rows) resource_told (row_count rows) t (booked_silent rows (resource_margin clock (sheet rows)))
      ∙ ap (tell t) (booked_all rows (resource_margin clock (sheet rows)))

  -- ---- the tasks, then the resources

  pub all_told : (s : Sink)
      → emit_margins (emit_margins s (each (task_margin clock (sheet rows)) (tasks (sheet rows)))) (each (resource_margin clock (sheet rows)) (booked_resources (sheet rows)))
      ≡ emit_margins s (margins rows)
  unfolding margins margin_lines
  all_told s = lines_append 3 three (each (task_margin clock (sheet rows)) (tasks (sheet rows))) (each (resource_margin clock (sheet rows)) (booked_resources (sheet rows))) s
