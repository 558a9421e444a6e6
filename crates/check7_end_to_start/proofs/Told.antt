-- The findings of predecessors and of precedence constraints, row by row. Assumes nothing.
use Prim.Native.Nat.{ℕ, ◌<◌}
use mathlib.Core.Path.{◌≡◌, refl, sym, ap, ◌∙◌}
use mathlib.Core.Bool.{Bool, true, false, true≢false}
use mathlib.Core.List.{List, [], ◌++◌, append-nil, foldl}
use Rattle.std.specs.Prelude.{Option, None, Some}
use lib.Dec.{eqb}
use lib.IntN.{ℤ, pos}
use Rattle.loops.specs.Lists.{given, each, keep, option}
use Rattle.loops.specs.inner.Chain.{Silent}
use Rattle.loops.proofs.ListLaws.{each_collect, keep_collect}
use Rattle.loops.proofs.RangeLaws.{collect_ext}
use Rattle.calendar.specs.Clock.{clock}
use Rattle.chains.specs.Places.{places}
use Rattle.rows.specs.Cells.{row_count, cell, num, is}
use Rattle.sheet.specs.Places.{of_kind, place_of}
use Rattle.sheet.specs.inner.Accepted.{Accepted}
use Rattle.sheet.proofs.Lookups.{is_num}
use Rattle.owners.specs.inner.Owners.{owner_kind, owned_by}
use Rattle.findings.specs.declared.Violation.{Violation}
use Rattle.findings.specs.inner.Told.{Told, tell, telling}
use Rattle.findings.proofs.Reporting.{tell_each, tell_places}
use Rattle.model.specs.Sheet.{sheet, row_at}
use Rattle.model.specs.inner.Records.{num_at, activity_of}
use Rattle.model.specs.Resource.{listed}
use Rattle.model.specs.Activity.{activity_at, activities, activities_of, predecessors}
use Rattle.model.specs.Constraint.{constraint_at, constraints}
use Rattle.model.specs.Schedule.{precedence_violation}
use Rattle.model.proofs.Accepting.{activity_at_lem, task_at_lem}
use Rattle.model.proofs.RowLaws.{row_none, row_here, activity_row, activity_none}
use Rattle.model.proofs.OwnedLaws.{of_activity, of_task}
use Rattle.model.proofs.ConstraintLaws.{precedence_row, by_constraint}
use Rattle.definition.specs.ActivitySpan as page
use Rattle.definition.specs.ActivitySpan.{activity_span}
use Rattle.definition.specs.CheckPrecedence.{end_to_start, check_precedence_constraint}
use Rattle.check7_end_to_start.specs.inner.Early.{starts_early}

-- ---- the test

module _ (rows : List ℤ) (before after : ℕ) (delay : ℤ) where
  pub early_found : end_to_start clock (sheet rows) before after delay ≡ given (starts_early rows before after delay) (precedence_violation 7 after)
  unfolding end_to_start starts_early
  early_found = go (activity_span clock (sheet rows) before) (activity_span clock (sheet rows) after)
    where
      go : (x y : Option (page.Span ℤ))
          → option x [] (λ x. option y [] λ y. given (clock.before y.start (clock.plus x.end delay)) (precedence_violation 7 after))
          ≡ given (option x false (λ x. option y false λ y. clock.before y.start (clock.plus x.end delay))) (precedence_violation 7 after)
      go None y = refl
      go (Some x) None = refl
      go (Some x) (Some y) = refl

-- ---- predecessors

module _ (rows : List ℤ) where
  -- what row k, a predecessor of an activity, tells
  abbrev pub predecessor_told : ℕ → ℕ → List Violation
  predecessor_told id k = end_to_start clock (sheet rows) (num rows k 2) id (pos 0)

  -- what all predecessors of an activity tell
  abbrev pub predecessors_of : ℕ → List Violation
  predecessors_of id = each (λ p. end_to_start clock (sheet rows) p id (pos 0)) (predecessors (sheet rows) id)

  predecessors_are : (o id : ℕ) → place_of rows 2 id ≡ Some o → each (predecessor_told id) (places (owned_by rows o 8) (row_count rows)) ≡ predecessors_of id
  unfolding places listed each
  predecessors_are o id q =
      each_collect (predecessor_told id) (λ k. given (owned_by rows o 8 k) k) (row_count rows)
      ∙ collect_ext _ _ (row_count rows) (λ k l. go k (is rows k 0 8) refl)
      ∙ sym (each_collect tells (row_at (sheet rows) 8 names) (row_count rows))
    where
      tells : ℕ → List Violation
      tells p = end_to_start clock (sheet rows) p id (pos 0)

      names : ℕ → List ℕ
      names k = given (eqb (num_at (sheet rows) k 1) id) (num_at (sheet rows) k 2)

      one : (k : ℕ) (b : Bool) → each (predecessor_told id) (given b k) ≡ each tells (given b (num rows k 2))
      one k true = refl
      one k false = refl

      go : (k : ℕ) (b : Bool) → is rows k 0 8 ≡ b → each (predecessor_told id) (given (owned_by rows o 8 k) k) ≡ each tells (row_at (sheet rows) 8 names k)
      go k true h = rw (of_activity rows 8 o id (unfold owner_kind in refl) q k, row_here rows k 8 names h, h, is_num rows k 0 8 h) (unfold is in one k (eqb (num rows k 1) id))
      go k false h = rw (of_activity rows 8 o id (unfold owner_kind in refl) q k, row_none rows k 8 names h, h) refl

  pub predecessors_told : Accepted rows → (o : ℕ) → o < row_count rows → is rows o 0 2 ≡ true → (t : Told)
      → foldl (telling (predecessor_told (num rows o 1))) t (places (owned_by rows o 8) (row_count rows)) ≡ tell t (predecessors_of (num rows o 1))
  predecessors_told acc o l h t =
      tell_each (predecessor_told (num rows o 1)) (places (owned_by rows o 8) (row_count rows)) t
      ∙ ap (tell t) (predecessors_are o (num rows o 1) (activity_at_lem rows acc o l h))

  -- ---- the activities of a task

  -- what the activity of row k tells
  abbrev pub activity_told : ℕ → List Violation
  activity_told k = predecessors_of (num rows k 1)

  -- what all activities of a task tell
  abbrev pub activities_told_of : ℕ → List Violation
  activities_told_of id = each (λ a. predecessors_of a.id) (activities_of (sheet rows) id)

  activities_are : (t id : ℕ) → place_of rows 1 id ≡ Some t → each activity_told (places (owned_by rows t 2) (row_count rows)) ≡ activities_told_of id
  unfolding places activities_of activities keep each
  activities_are t id q =
      each_collect activity_told (λ k. given (owned_by rows t 2 k) k) (row_count rows)
      ∙ collect_ext _ _ (row_count rows) (λ k l. go k (is rows k 0 2) refl)
      ∙ sym (ap (each (λ a. predecessors_of a.id)) (keep_collect (λ a. eqb a.task id) (activity_at (sheet rows)) (row_count rows))
      ∙ each_collect (λ a. predecessors_of a.id) (λ k. keep (λ a. eqb a.task id) (activity_at (sheet rows) k)) (row_count rows))
    where
      one : (k : ℕ) (b : Bool) → each activity_told (given b k) ≡ each (λ a. predecessors_of a.id) (given b (activity_of rows k) ++ [])
      one k true = refl
      one k false = refl

      go : (k : ℕ) (b : Bool) → is rows k 0 2 ≡ b
          → each activity_told (given (owned_by rows t 2 k) k) ≡ each (λ a. predecessors_of a.id) (keep (λ a. eqb a.task id) (activity_at (sheet rows) k))
      go k true h = rw (of_task rows 2 t id (unfold owner_kind in refl) q k, activity_row rows k h, h) (unfold is in one k (eqb (num rows k 2) id))
      go k false h = rw (of_task rows 2 t id (unfold owner_kind in refl) q k, activity_none rows k h, h) refl

  pub activities_told : Accepted rows → (t : ℕ) → t < row_count rows → is rows t 0 1 ≡ true → (s : Told)
      → foldl (telling activity_told) s (places (owned_by rows t 2) (row_count rows)) ≡ tell s (activities_told_of (num rows t 1))
  activities_told acc t l h s =
      tell_each activity_told (places (owned_by rows t 2) (row_count rows)) s
      ∙ ap (tell s) (activities_are t (num rows t 1) (task_at_lem rows acc t l h))

  -- ---- precedence constraints

  -- what row k, a constraint, tells
  abbrev pub constraint_told : ℕ → List Violation
  constraint_told k = each (check_precedence_constraint clock (sheet rows)) (constraint_at (sheet rows) k)

  -- what all constraints tell
  abbrev pub constraints_of : List Violation
  constraints_of = each (check_precedence_constraint clock (sheet rows)) (constraints (sheet rows))

  pub constraint_silent : Silent (of_kind rows 17) constraint_told
  unfolding of_kind each
  constraint_silent = record {
    still = λ k h.
        by_constraint rows k (λ l. each (check_precedence_constraint clock (sheet rows)) l ≡ []) refl (λ e. absurd (true≢false (sym e ∙ h))) (λ e. refl) (λ e. refl) (λ e. refl) (λ e. refl);
  }

  pub constraint_found : (k : ℕ) → is rows k 0 17 ≡ true → constraint_told k ≡ end_to_start clock (sheet rows) (num rows k 1) (num rows k 2) (cell rows k 3)
  unfolding each
  constraint_found k h = rw (precedence_row rows k h) (append-nil (end_to_start clock (sheet rows) (num rows k 1) (num rows k 2) (cell rows k 3)))

  pub constraints_told : (t : Told) → foldl (telling constraint_told) t (places (of_kind rows 17) (row_count rows)) ≡ tell t constraints_of
  unfolding constraints
  constraints_told t =
      tell_places (of_kind rows 17) constraint_told (row_count rows) t constraint_silent
      ∙ ap (tell t) (sym (each_collect (check_precedence_constraint clock (sheet rows)) (constraint_at (sheet rows)) (row_count rows)))
