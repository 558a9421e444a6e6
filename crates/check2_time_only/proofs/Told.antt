-- What is reported of a span, and of an activity without one. Assumes nothing.
use Prim.Native.Nat.{ℕ, ◌+◌, ◌<◌, ◌≤◌}
use mathlib.Core.Path.{◌≡◌, refl, ap, ap₂, sym, ◌∙◌}
use mathlib.Core.Bool.{Bool, true, false, cond, not, ◌&&◌, and-true}
use mathlib.Core.List.{List, [], ◌∷◌, ◌++◌, map, append-nil, foldl}
use Rattle.std.specs.Prelude.{Option, None, Some}
use native.Mathlib.Omega.{arith}
use lib.Dec.{eqb, ltb}
use lib.IntN.{ℤ, pos}
use lib.Signed.{lt_z}
use mir.Syntax.{w64}
use mir.Val.{Fits}
use Rattle.loops.specs.Lists.{given, option, each, all_of}
use Rattle.loops.specs.Range.{collect}
use Rattle.loops.specs.inner.Chain.{Silent}
use Rattle.loops.proofs.RangeLaws.{collect_ext}
use Rattle.loops.proofs.ListLaws.{each_collect, each_keep}
use Rattle.calendar.specs.Clock.{clock}
use Rattle.calendar.specs.Calendar.{Calendar, is_working_time, interval_fits, joint_working}
use Rattle.calendar.specs.Amount.{joint_available_ms}
use Rattle.calendar.specs.declared.Places.{Places}
use Rattle.calendar.specs.declared.TimeWindow.{TimeWindow}
use Rattle.calendar.specs.Layout.{window_of, calendars_of}
use Rattle.loops.proofs.NumberLaws.{shorter}
use Rattle.rows.specs.Cells.{row_count, num, is}
use Rattle.sheet.specs.Places.{of_kind, place_of}
use Rattle.sheet.specs.Refusals.{refusal_of}
use Rattle.sheet.proofs.Lookups.{placed}
use Rattle.owners.specs.inner.Owners.{owner_kind, owned_by}
use Rattle.findings.specs.declared.Violation.{Violation}
use Rattle.findings.specs.inner.Told.{Told, tell, telling}
use Rattle.findings.proofs.Reporting.{tell_append, tell_each, tell_places}
use Rattle.chains.specs.Places.{places}
use Rattle.resource_timing.specs.Durations.{total_ms}
use Rattle.model.specs.Sheet.{sheet}
use Rattle.model.specs.inner.Records.{task_of, maybe_at, activity_of, span_of}
use Rattle.model.specs.Task.{Task, task_at, tasks, find_task}
use Rattle.model.specs.Activity.{Activity, activity_at, activities, activities_of}
use Rattle.model.specs.Schedule.{time_only_below, unknown_activity, duration_too_short, time_window_violation, early_start}
use Rattle.model.proofs.RowLaws.{task_row, task_none, activity_row, activity_none, span_row, span_none}
use Rattle.model.proofs.Accepting.{accepted, at_most, found_again}
use Rattle.model.proofs.OwnedLaws.{of_task}
use Rattle.model.proofs.Finds.{find_task_lem}
use Rattle.definition.specs.CheckTimeOnly.{seen, early_span, check_first, check_span, check_span_at, check_unplaced, check_time_only}
use Rattle.check2_time_only.specs.inner.Tests.{own_windows, too_short, outside_own, starts_before, release_of_task}
use Rattle.check2_time_only.specs.inner.Known.{known_row}
use Rattle.check2_time_only.proofs.Spans.{known_is, known_place}

-- ---- the windows of one calendar

joint_one : (l : Calendar ℤ) (t : ℤ) → joint_working clock (l ∷ []) t ≡ is_working_time clock l t
unfolding joint_working all_of
joint_one l t = and-true (is_working_time clock l t)

-- ---- sums that fit

module _ (rows : List ℤ) (a : ℕ) {s p : ℕ} where
  pub part_fits : s ≡ num rows a 4 → p ≡ num rows a 5 → refusal_of rows ≡ None → is rows a 0 2 ≡ true → Fits w64 (s + p)
  part_fits e f acc h = let x = at_most rows (accepted rows acc) a 2 4 h in let y = at_most rows (accepted rows acc) a 2 5 h in record { fits = omega arith }

  pub work_fits : {t : ℕ} → t ≡ num rows a 6 → s ≡ num rows a 4 → p ≡ num rows a 5 → refusal_of rows ≡ None → is rows a 0 2 ≡ true → Fits w64 (s + p + t)
  work_fits g e f acc h =
      let x = at_most rows (accepted rows acc) a 2 4 h in
      let y = at_most rows (accepted rows acc) a 2 5 h in
      let z = at_most rows (accepted rows acc) a 2 6 h in
      record { fits = omega arith }

pub end_fits : (rows : List ℤ) (k : ℕ) {s w : ℕ} → s ≡ num rows k 3 → w ≤ 12000000000000 → refusal_of rows ≡ None → is rows k 0 24 ≡ true → Fits w64 (s + w)
end_fits rows k e l acc h = let x = at_most rows (accepted rows acc) k 24 3 h in record { fits = omega arith }

-- one after the other
then : (a b : List Violation) (s : Told) {s₁ s₂ : Told} → s₁ ≡ tell s a → s₂ ≡ tell s₁ b → s₂ ≡ tell s (a ++ b)
then a b s e f = f ∙ ap (λ t. tell t b) e ∙ tell_append s a b

module _ (rows : List ℤ) (a k : ℕ) where
  -- what an activity needs
  pub work_most : {s p t : ℕ} → refusal_of rows ≡ None → is rows a 0 2 ≡ true → s ≡ num rows a 4 → p ≡ num rows a 5 → t ≡ num rows a 6 → s + p + t ≤ 12000000000000
  work_most acc h e f g =
      let x = at_most rows (accepted rows acc) a 2 4 h in
      let y = at_most rows (accepted rows acc) a 2 5 h in
      let z = at_most rows (accepted rows acc) a 2 6 h in
      omega arith

  abbrev own : Calendar ℤ
  own = own_windows rows a

  module _ (w : List TimeWindow) (c : map window_of w ≡ own_windows rows a) where
    pub short_resumed : (p : Places) {r : Bool} {v work start end : ℕ} → r ≡ is rows a 7 1 → r ≡ true → work ≡ total_ms (activity_of rows a).duration → start ≡ num rows k 3
        → end ≡ num rows k 4 → calendars_of w (p ∷ []) ≡ map window_of w ∷ [] → v ≡ joint_available_ms clock (calendars_of w (p ∷ [])) (pos start) (pos end)
        → ltb v work ≡ too_short clock (span_of rows k) (activity_of rows a) own
    unfolding is
    short_resumed p {v = v} {start = start} {end} q h wk s e o g =
        let j : v ≡ joint_available_ms clock (own ∷ []) (pos (num rows k 3)) (pos (num rows k 4)) = rw (o, c, s, e) at g in
        rw (sym q ∙ h) (ap₂ ltb j wk)

    pub short_plain : {r : Bool} {work start end : ℕ} → r ≡ is rows a 7 1 → r ≡ false → work ≡ total_ms (activity_of rows a).duration → start ≡ num rows k 3
        → end ≡ num rows k 4 → ltb end (start + work) ≡ too_short clock (span_of rows k) (activity_of rows a) own
    unfolding is
    short_plain q h wk s e = rw (sym q ∙ h) (ap₂ (λ x y. ltb x y) e (ap₂ ◌+◌ s wk) ∙ sym (shorter (num rows k 3) (num rows k 4) (total_ms (activity_of rows a).duration)))

    pub outside_resumed : {r b : Bool} {start : ℕ} → r ≡ is rows a 7 1 → r ≡ true → start ≡ num rows k 3 → b ≡ is_working_time clock (map window_of w) (pos start)
        → not b ≡ outside_own clock (span_of rows k) (activity_of rows a) own
    unfolding is
    outside_resumed {b = b} q h s g =
        let j : b ≡ joint_working clock (own ∷ []) (pos (num rows k 3)) = (rw (c, s) at g) ∙ sym (joint_one own (pos (num rows k 3))) in
        rw (sym q ∙ h) (ap not j)

    pub outside_plain : {r b : Bool} {start end : ℕ} → r ≡ is rows a 7 1 → r ≡ false → start ≡ num rows k 3 → end ≡ num rows k 4
        → b ≡ interval_fits clock (map window_of w) (pos start) (pos end) → not b ≡ outside_own clock (span_of rows k) (activity_of rows a) own
    unfolding is
    outside_plain q h s e g = rw (sym q ∙ h) (ap not (rw (c, s, e) at g))

  -- ---- releases

  early_is : (x : Option ℤ)
      → given (option x false (λ y. lt_z (pos (num rows k 3)) y)) (early_start 2 (num rows k 1)) ≡ early_span clock (sheet rows) (span_of rows k) x
  early_is None = refl
  early_is (Some y) = refl

  task_release : option (place_of rows 1 (num rows a 2)) None (λ t. maybe_at rows t 3) ≡ option (find_task (sheet rows) (num rows a 2)) None (λ y. y.release)
  task_release = go (place_of rows 1 (num rows a 2)) ∙ sym (ap (λ y. option y None (λ t. t.release)) (find_task_lem rows (num rows a 2)))
    where
      go : (x : Option ℕ) → option x None (λ t. maybe_at rows t 3) ≡ option (option x None (λ j. Some (task_of rows j))) None (λ t. t.release)
      go None = refl
      go (Some t) = refl

  -- the findings of a first known span, by what was worked out of its rows
  first_are : check_first clock (sheet rows) (span_of rows k) (activity_of rows a)
      ≡ ((given (too_short clock (span_of rows k) (activity_of rows a) own) (duration_too_short 2 (num rows k 1))
      ++ given (outside_own clock (span_of rows k) (activity_of rows a) own) (time_window_violation 2 (num rows k 1)))
      ++ given (starts_before rows k (maybe_at rows a 8)) (early_start 2 (num rows k 1)))
      ++ given (starts_before rows k (release_of_task rows a)) (early_start 2 (num rows k 1))
  unfolding check_first starts_before release_of_task
  first_are = rw (early_is (maybe_at rows a 8), task_release, early_is (option (find_task (sheet rows) (num rows a 2)) None (λ t. t.release)))

  pub first_told : (s₀ : Told) {s₁ s₂ s₃ s₄ : Told} {b₁ b₂ b₃ b₄ : Bool} {f g h : Violation} {id : ℕ} {x y : Option ℤ}
      → s₁ ≡ tell s₀ (given b₁ f) → s₂ ≡ tell s₁ (given b₂ g) → s₃ ≡ tell s₂ (given b₃ h) → s₄ ≡ tell s₃ (given b₄ h)
      → f ≡ duration_too_short 2 id → g ≡ time_window_violation 2 id → h ≡ early_start 2 id → id ≡ num rows k 1
      → b₁ ≡ too_short clock (span_of rows k) (activity_of rows a) own → b₂ ≡ outside_own clock (span_of rows k) (activity_of rows a) own
      → b₃ ≡ starts_before rows k x → x ≡ maybe_at rows a 8 → b₄ ≡ starts_before rows k y → y ≡ release_of_task rows a
      → s₄ ≡ tell s₀ (check_first clock (sheet rows) (span_of rows k) (activity_of rows a))
  first_told s₀ h₁ h₂ h₃ h₄ ef eg eh i e₁ e₂ e₃ ex e₄ ey =
      then _ _ s₀
      (then _ _ s₀ (then _ _ s₀ (rw (e₁, ef, i) at h₁) (rw (e₂, eg, i) at h₂)) (rw (e₃, ex, eh, i) at h₃))
      (rw (e₄, ey, eh, i) at h₄)
      ∙ ap (tell s₀) (sym first_are)

-- ---- a span

module _ (rows : List ℤ) (k : ℕ) where
  span_at_lem : is rows k 0 24 ≡ true → check_span_at clock (sheet rows) k ≡ check_span clock (sheet rows) (time_only_below (sheet rows) k) (span_of rows k)
  unfolding check_span_at each
  span_at_lem h = rw (span_row rows k h) (append-nil _)

  -- no known span
  pub unknown_told : is rows k 0 24 ≡ true → known_row rows k ≡ None → check_span_at clock (sheet rows) k ≡ given true (unknown_activity 2 (num rows k 1))
  unfolding check_span
  unknown_told h e = rw (span_at_lem h, known_is rows k, e)

  module _ (h : is rows k 0 24 ≡ true) (a : ℕ) (e : known_row rows k ≡ Some a) where
    same_id : num rows a 1 ≡ num rows k 1
    same_id = (placed rows 2 (num rows k 1) a (known_place rows k a e)).id_is

    -- a second one
    pub again_told : seen (sheet rows) (time_only_below (sheet rows) k) (num rows a 1) ≡ true → check_span_at clock (sheet rows) k ≡ given true (unknown_activity 2 (num rows k 1))
    unfolding check_span
    again_told v = rw (span_at_lem h, known_is rows k, e, rw same_id at v)

    pub here_told : seen (sheet rows) (time_only_below (sheet rows) k) (num rows a 1) ≡ false → check_span_at clock (sheet rows) k ≡ check_first clock (sheet rows) (span_of rows k) (activity_of rows a)
    unfolding check_span
    here_told v = rw (span_at_lem h, known_is rows k, e, rw same_id at v)

pub span_silent : (rows : List ℤ) → Silent (of_kind rows 24) (check_span_at clock (sheet rows))
unfolding check_span_at each of_kind
span_silent rows = record { still = λ k h. rw (span_none rows k h) }

pub spans_told : (rows : List ℤ) (s : Told) → foldl (telling (check_span_at clock (sheet rows))) s (places (of_kind rows 24) (row_count rows)) ≡ tell s (collect (check_span_at clock (sheet rows)) (row_count rows))
spans_told rows s = tell_places (of_kind rows 24) (check_span_at clock (sheet rows)) (row_count rows) s (span_silent rows)

-- ---- an activity without a span

-- what is told of the activity of row a
abbrev pub unplaced_at : List ℤ → ℕ → List Violation
unplaced_at rows a = check_unplaced clock (sheet rows) (activity_of rows a)

-- of those of the task of row t
abbrev pub task_at_row : List ℤ → ℕ → List Violation
task_at_row rows t = each (check_unplaced clock (sheet rows)) (activities_of (sheet rows) (num rows t 1))

module _ (rows : List ℤ) (t : ℕ) (q : place_of rows 1 (num rows t 1) ≡ Some t) where
  -- what the definition makes of row k
  told_if : ℕ → List Violation
  told_if k = each (λ (a : Activity ℤ). cond (eqb a.task (num rows t 1)) (check_unplaced clock (sheet rows) a) []) (activity_at (sheet rows) k)

  at_row : (k : ℕ) → each (unplaced_at rows) (given (owned_by rows t 2 k) k) ≡ told_if k
  unfolding told_if each is
  at_row k = rw (of_task rows 2 t (num rows t 1) (unfold owner_kind in refl) q k) (go (is rows k 0 2) refl)
    where
      here : (b : Bool) → each (unplaced_at rows) (given b k) ≡ cond b (check_unplaced clock (sheet rows) (activity_of rows k)) [] ++ []
      here true = refl
      here false = refl

      go : (c : Bool) → is rows k 0 2 ≡ c
          → each (unplaced_at rows) (given (is rows k 0 2 && is rows k 2 (num rows t 1)) k)
          ≡ each (λ (a : Activity ℤ). cond (eqb a.task (num rows t 1)) (check_unplaced clock (sheet rows) a) []) (activity_at (sheet rows) k)
      go true h = rw (h, activity_row rows k h) (here (eqb (num rows k 2) (num rows t 1)))
      go false h = rw (h, activity_none rows k h)

  task_are : each (unplaced_at rows) (places (owned_by rows t 2) (row_count rows)) ≡ task_at_row rows t
  unfolding places activities_of activities told_if
  task_are =
      each_collect (unplaced_at rows) (λ k. given (owned_by rows t 2 k) k) (row_count rows)
      ∙ collect_ext _ _ (row_count rows) (λ k l. at_row k)
      ∙ sym
      (each_keep (check_unplaced clock (sheet rows)) (λ a. eqb a.task (num rows t 1)) (collect (activity_at (sheet rows)) (row_count rows))
      ∙ each_collect (λ (a : Activity ℤ). cond (eqb a.task (num rows t 1)) (check_unplaced clock (sheet rows) a) []) (activity_at (sheet rows)) (row_count rows))

module _ (rows : List ℤ) where
  pub task_told : (t : ℕ) (s : Told) → refusal_of rows ≡ None → t < row_count rows → is rows t 0 1 ≡ true
      → foldl (telling (unplaced_at rows)) s (places (owned_by rows t 2) (row_count rows)) ≡ tell s (task_at_row rows t)
  task_told t s acc l h =
      tell_each (unplaced_at rows) (places (owned_by rows t 2) (row_count rows)) s
      ∙ ap (tell s) (task_are rows t (found_again rows (accepted rows acc) t 1 l refl h))

  pub activity_itself : (a : ℕ) → refusal_of rows ≡ None → a < row_count rows → is rows a 0 2 ≡ true → place_of rows 2 (num rows a 1) ≡ Some a
  activity_itself a acc l h = found_again rows (accepted rows acc) a 2 l refl h

  task_row_told : (k : ℕ) → each (task_at_row rows) (given (of_kind rows 1 k) k) ≡ each (λ (t : Task ℤ). each (check_unplaced clock (sheet rows)) (activities_of (sheet rows) t.id)) (task_at (sheet rows) k)
  unfolding of_kind each
  task_row_told k = go (is rows k 0 1) refl
    where
      go : (b : Bool) → is rows k 0 1 ≡ b
          → each (task_at_row rows) (given (is rows k 0 1) k) ≡ each (λ (t : Task ℤ). each (check_unplaced clock (sheet rows)) (activities_of (sheet rows) t.id)) (task_at (sheet rows) k)
      go true h = rw (h, task_row rows k h)
      go false h = rw (h, task_none rows k h)

  pub tasks_told : (s : Told)
      → foldl (telling (task_at_row rows)) s (places (of_kind rows 1) (row_count rows))
      ≡ tell s (each (λ (t : Task ℤ). each (check_unplaced clock (sheet rows)) (activities_of (sheet rows) t.id)) (tasks (sheet rows)))
  unfolding tasks places
  tasks_told s =
      tell_each (task_at_row rows) (collect (λ k. given (of_kind rows 1 k) k) (row_count rows)) s
      ∙ ap (tell s)
      (each_collect (task_at_row rows) (λ k. given (of_kind rows 1 k) k) (row_count rows)
      ∙ collect_ext _ _ (row_count rows) (λ k l. task_row_told k)
      ∙ sym (each_collect (λ (t : Task ℤ). each (check_unplaced clock (sheet rows)) (activities_of (sheet rows) t.id)) (task_at (sheet rows)) (row_count rows)))

-- spans, then tasks
pub all_told : (rows : List ℤ) (s : Told) {s₁ s₂ : Told} → s₁ ≡ tell s (collect (check_span_at clock (sheet rows)) (row_count rows))
    → s₂ ≡ tell s₁ (each (λ (t : Task ℤ). each (check_unplaced clock (sheet rows)) (activities_of (sheet rows) t.id)) (tasks (sheet rows)))
    → s₂ ≡ tell s (check_time_only clock (sheet rows))
unfolding check_time_only
all_told rows s e f = then _ _ s e f
