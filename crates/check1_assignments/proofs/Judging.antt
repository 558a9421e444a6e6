-- The findings of a booking, put together from what the code asks. Assumes nothing.
use Prim.Native.Nat.{ℕ, suc, ◌+◌, ◌≤◌}
use mathlib.Core.Path.{◌≡◌, refl, ap, ap₂, sym, ◌∙◌}
use mathlib.Core.Bool.{Bool, true, false, cond, or-false}
use mathlib.Core.List.{List, [], ◌++◌, append-nil, foldl}
use Rattle.std.specs.Prelude.{Option, None, Some}
use native.Mathlib.Omega.{arith}
use native.Mathlib.Numerals.{add-one}
use lib.Dec.{ltb}
use lib.IntN.{ℤ, pos, negsuc, ◌-ℤ◌}
use lib.Signed.{lt_z}
use borrow.Author.Tests.{le-ltb}
use Rattle.loops.specs.Lists.{given, each, option, is_some, any_of}
use Rattle.loops.specs.Numbers.{to_nat}
use Rattle.loops.specs.inner.Chain.{Silent}
use Rattle.loops.proofs.NumberLaws.{shorter}
use Rattle.rows.specs.Cells.{row_count, cell, num, is}
use Rattle.rows.specs.declared.Class.TheVariants.{OptionalInstant}
use Rattle.sheet.specs.Places.{of_kind, place_of}
use Rattle.sheet.specs.inner.Accepted.{Accepted}
use Rattle.calendar.specs.Clock.{clock}
use Rattle.findings.specs.declared.Violation.{Violation}
use Rattle.findings.specs.inner.Told.{Told, tell, telling}
use Rattle.findings.proofs.Reporting.{tell_none, tell_append, tell_places}
use Rattle.chains.specs.Places.{places}
use Rattle.model.specs.Sheet.{sheet, read, as_instant}
use Rattle.model.specs.inner.Records.{maybe_at, task_of, activity_of, assignment_of}
use Rattle.model.specs.Task.{find_task}
use Rattle.model.specs.Activity.{needed_ms}
use Rattle.model.specs.Schedule.{Assignment, assignments_below, unknown_activity, duration_too_short, early_start}
use Rattle.model.proofs.RowLaws.{assignment_row, assignment_none}
use Rattle.model.proofs.Accepting.{at_most}
use Rattle.model.proofs.Finds.{find_task_lem, find_activity_lem}
use Rattle.definition.specs.Pieces.{is_held, runs_on}
use Rattle.definition.specs.CheckAssignments.{misplaced, units, uses, early_assignment, check_known, check_assignment, check_assignment_at, check_assignments}
use Rattle.pieces.specs.inner.Held.{held_at}

joined : (a b : List Violation) (t t₁ : Told) {t₂ : Told} → t₁ ≡ tell t a → t₂ ≡ tell t₁ b → t₂ ≡ tell t (a ++ b)
joined a b t t₁ e f = f ∙ ap (λ x. tell x b) e ∙ tell_append t a b

module _ (rows : List ℤ) where
  -- ---- releases

  early_cell : (b : Assignment ℤ) (s : ℕ) → b.start ≡ pos s → (x : ℤ)
      → early_assignment clock (sheet rows) b (as_instant (read OptionalInstant x)) ≡ given (ltb s (to_nat x)) (early_start 1 b.activity)
  early_cell b s e (pos n) = rw e
  early_cell b s e (negsuc n) = rw (le-ltb s 0 (omega arith))

  early_is : (k r c : ℕ) → early_assignment clock (sheet rows) (assignment_of rows k) (maybe_at rows r c) ≡ given (ltb (num rows k 4) (num rows r c)) (early_start 1 (num rows k 1))
  early_is k r c = early_cell (assignment_of rows k) (num rows k 4) refl (cell rows r c)

  early_task : (a k : ℕ)
      → early_assignment clock (sheet rows) (assignment_of rows k) (option (find_task (sheet rows) (num rows a 2)) None (λ x. x.release))
      ≡ given (option (place_of rows 1 (num rows a 2)) false (λ t. ltb (num rows k 4) (num rows t 3))) (early_start 1 (num rows k 1))
  early_task a k =
      ap (λ x. early_assignment clock (sheet rows) (assignment_of rows k) (option x None (λ y. y.release))) (find_task_lem rows (num rows a 2))
      ∙ go (place_of rows 1 (num rows a 2))
    where
      go : (x : Option ℕ)
          → early_assignment clock (sheet rows) (assignment_of rows k) (option (option x None (λ j. Some (task_of rows j))) None (λ y. y.release))
          ≡ given (option x false (λ t. ltb (num rows k 4) (num rows t 3))) (early_start 1 (num rows k 1))
      go None = refl
      go (Some t) = early_is k t 3

  -- ---- a booking of an activity

  cond_yes : {A : Type 0} {b : Bool} (x y : A) → b ≡ true → cond b x y ≡ x
  cond_yes x y e = rw e

  cond_no : {A : Type 0} {b : Bool} (x y : A) → b ≡ false → cond b x y ≡ y
  cond_no x y e = rw e

  module _ (a k : ℕ) where
    abbrev known : List Violation
    known = check_known clock (sheet rows) (assignments_below (sheet rows) k) (assignment_of rows k) (activity_of rows a)

    pub known_misplaced : misplaced (sheet rows) (activity_of rows a) (assignment_of rows k) ≡ true → known ≡ given true (unknown_activity 1 (num rows k 1))
    unfolding check_known
    known_misplaced h = cond_yes _ _ h

    held_row : is rows k 0 23 ≡ true → held_at rows k ≡ is_held (sheet rows) (assignment_of rows k)
    unfolding held_at any_of
    held_row h = rw (assignment_row rows k h) (or-false (is_held (sheet rows) (assignment_of rows k)))

    pub held_as : {b : Bool} → is rows k 0 23 ≡ true → held_at rows k ≡ b → is_held (sheet rows) (assignment_of rows k) ≡ b
    held_as h e = sym (held_row h) ∙ e

    known_held : misplaced (sheet rows) (activity_of rows a) (assignment_of rows k) ≡ false → is rows k 0 23 ≡ true → held_at rows k ≡ true → known ≡ []
    unfolding check_known
    known_held h g e = cond_no _ _ h ∙ cond_yes _ _ (held_as g e)

    pub held_told : (t : Told) → misplaced (sheet rows) (activity_of rows a) (assignment_of rows k) ≡ false → is rows k 0 23 ≡ true → held_at rows k ≡ true → t ≡ tell t known
    held_told t h g e = sym (tell_none t) ∙ ap (tell t) (sym (known_held h g e))

    judged_is : misplaced (sheet rows) (activity_of rows a) (assignment_of rows k) ≡ false → is_held (sheet rows) (assignment_of rows k) ≡ false
        → known
        ≡ given
        (lt_z (units (sheet rows) (num rows a 1)) (pos (suc (uses (sheet rows) (activity_of rows a) (assignment_of rows k) (assignments_below (sheet rows) k)))))
        (unknown_activity 1 (num rows k 1))
        ++ given (lt_z (pos (num rows k 5) -ℤ pos (num rows k 4)) (pos (needed_ms (sheet rows) (activity_of rows a) (assignment_of rows k) (runs_on (sheet rows) (assignment_of rows k))))) (duration_too_short 1 (num rows k 1))
        ++ early_assignment clock (sheet rows) (assignment_of rows k) (maybe_at rows a 8)
        ++ early_assignment clock (sheet rows) (assignment_of rows k) (option (find_task (sheet rows) (num rows a 2)) None (λ t. t.release))
    unfolding check_known
    judged_is h g = cond_no _ _ h ∙ cond_no _ _ g

    -- as the code tells them
    pub judged_told : misplaced (sheet rows) (activity_of rows a) (assignment_of rows k) ≡ false
        → is_held (sheet rows) (assignment_of rows k) ≡ false
        → {id used : ℕ} {over short early late : Bool} {x y z : Violation} (t₀ : Told) {t₁ t₂ t₃ t₄ : Told}
        → id ≡ num rows k 1
        → x ≡ unknown_activity 1 id
        → y ≡ duration_too_short 1 id
        → z ≡ early_start 1 id
        → used ≡ uses (sheet rows) (activity_of rows a) (assignment_of rows k) (assignments_below (sheet rows) k)
        → over ≡ lt_z (units (sheet rows) (num rows a 1)) (pos (used + 1))
        → t₁ ≡ tell t₀ (given over x)
        → short ≡ ltb (num rows k 5) (num rows k 4 + needed_ms (sheet rows) (activity_of rows a) (assignment_of rows k) (runs_on (sheet rows) (assignment_of rows k)))
        → t₂ ≡ tell t₁ (given short y)
        → early ≡ ltb (num rows k 4) (num rows a 8)
        → t₃ ≡ tell t₂ (given early z)
        → late ≡ option (place_of rows 1 (num rows a 2)) false (λ t. ltb (num rows k 4) (num rows t 3))
        → t₄ ≡ tell t₃ (given late z)
        → t₄ ≡ tell t₀ known
    judged_told h g {id} {used} {over} {short} {early} {late} {x} {y} {z} t₀ {t₁} {t₂} {t₃} i xe ye ze u o q₁ w q₂ e q₃ l q₄ =
        joined (given over x ++ given short y ++ given early z) (given late z) t₀ t₃ (joined (given over x ++ given short y) (given early z) t₀ t₂ (joined (given over x) (given short y) t₀ t₁ q₁ q₂) q₃) q₄
        ∙ ap (tell t₀)
        (ap₂ ◌++◌
        (ap₂ ◌++◌
        (ap₂ ◌++◌
        (ap₂ given (o ∙ ap (λ n. lt_z (units (sheet rows) (num rows a 1)) (pos n)) (add-one used ∙ ap suc u)) (xe ∙ ap (unknown_activity 1) i))
        (ap₂ given (w ∙ sym (shorter (num rows k 4) (num rows k 5) (needed_ms (sheet rows) (activity_of rows a) (assignment_of rows k) (runs_on (sheet rows) (assignment_of rows k))))) (ye ∙ ap (duration_too_short 1) i)))
        (ap₂ given e (ze ∙ ap (early_start 1) i) ∙ sym (early_is k a 8)))
        (ap₂ given l (ze ∙ ap (early_start 1) i) ∙ sym (early_task a k))
        ∙ sym (judged_is h g))

  -- ---- any booking

  module _ (k : ℕ) (h : is rows k 0 23 ≡ true) where
    booking_is : check_assignment_at clock (sheet rows) k ≡ check_assignment clock (sheet rows) (assignments_below (sheet rows) k) (assignment_of rows k)
    unfolding check_assignment_at each
    booking_is = rw (assignment_row rows k h) (append-nil _)

    answer : {x : Option ℕ} → place_of rows 2 (num rows k 1) ≡ x → check_assignment_at clock (sheet rows) k
        ≡ option x (given (is_some (find_task (sheet rows) (num rows k 2))) (unknown_activity 1 (num rows k 1))) (λ a. known a k)
    unfolding check_assignment
    answer {x} q =
        booking_is
        ∙ ap
        (λ y. option y (given (is_some (find_task (sheet rows) (num rows k 2))) (unknown_activity 1 (num rows k 1))) (check_known clock (sheet rows) (assignments_below (sheet rows) k) (assignment_of rows k)))
        (find_activity_lem rows (num rows k 1) ∙ ap (λ y. option y None (λ j. Some (activity_of rows j))) q)
        ∙ go x
      where
        go : (x : Option ℕ)
            → option (option x None (λ j. Some (activity_of rows j))) (given (is_some (find_task (sheet rows) (num rows k 2))) (unknown_activity 1 (num rows k 1))) (check_known clock (sheet rows) (assignments_below (sheet rows) k) (assignment_of rows k))
            ≡ option x (given (is_some (find_task (sheet rows) (num rows k 2))) (unknown_activity 1 (num rows k 1))) (λ a. known a k)
        go None = refl
        go (Some a) = refl

    -- by the lookup of its activity
    pub answer_none : None ≡ place_of rows 2 (num rows k 1)
        → check_assignment_at clock (sheet rows) k ≡ given (is_some (find_task (sheet rows) (num rows k 2))) (unknown_activity 1 (num rows k 1))
    answer_none q = answer (sym q)

    pub answer_some : (a : ℕ) → Some a ≡ place_of rows 2 (num rows k 1) → check_assignment_at clock (sheet rows) k ≡ known a k
    answer_some a q = answer (sym q)

  pub assignment_silent : Silent (of_kind rows 23) (check_assignment_at clock (sheet rows))
  unfolding check_assignment_at each of_kind
  assignment_silent = record { still = λ k h. rw (assignment_none rows k h) }

  pub assignments_told : (t : Told) → foldl (telling (check_assignment_at clock (sheet rows))) t (places (of_kind rows 23) (row_count rows)) ≡ tell t (check_assignments clock (sheet rows))
  unfolding check_assignments
  assignments_told t = tell_places (of_kind rows 23) (check_assignment_at clock (sheet rows)) (row_count rows) t assignment_silent

  -- ---- a task

  some_place : (x : Option ℕ) → is_some (option x None (λ k. Some (task_of rows k))) ≡ is_some x
  some_place None = refl
  some_place (Some k) = refl

  pub task_known : (id : ℕ) → is_some (find_task (sheet rows) id) ≡ is_some (place_of rows 1 id)
  task_known id = ap is_some (find_task_lem rows id) ∙ some_place (place_of rows 1 id)

-- ---- numbers that are added

module _ (rows : List ℤ) (k : ℕ) where
  pub start_small : Accepted rows → is rows k 0 23 ≡ true → num rows k 4 ≤ 4000000000000
  start_small acc h = at_most rows acc k 23 4 h

  pub setup_small : Accepted rows → is rows k 0 23 ≡ true → num rows k 6 ≤ 4000000000000
  setup_small acc h = at_most rows acc k 23 6 h
