-- What a constraint's row gives, by its kind; how many constraints stand above a row. Assumes nothing.
use Prim.Native.Nat.{ℕ, ◌+◌, ◌<◌, ◌≤◌}
use mathlib.Core.Path.{◌≡◌, refl, ap, sym, ◌∙◌}
use mathlib.Core.Bool.{Bool, true, false, cond, ◌&&◌, ◌||◌, true≢false}
use mathlib.Core.List.{List, [], ◌++◌, append-nil}
use Rattle.std.specs.Prelude.{Option, None, Some, leb, ◌⊎◌}
use Rattle.std.proofs.Common.{inl, inr}
use Rattle.std.proofs.lemmas.Bool.Decides.{leb_tells}
use native.Mathlib.Omega.{arith}
use native.Mathlib.Decide.{ℕ_discrete}
use lib.IntN.{ℤ, pos}
use lib.ListN.{length, length-append}
use borrow.Author.Tests.{ne_eqb}
use Rattle.loops.specs.Lists.{given, each, option}
use Rattle.loops.specs.Range.{collect}
use Rattle.loops.proofs.RangeLaws.{collect_step, collect_done}
use Rattle.calendar.specs.Clock.{clock}
use Rattle.rows.specs.Cells.{row_count, num, is}
use Rattle.findings.specs.declared.Violation.{Violation}
use Rattle.findings.specs.inner.Told.{Told, tell}
use Rattle.findings.proofs.Reporting.{tell_none, tell_append}
use Rattle.sheet.specs.Places.{is_constraint}
use Rattle.model.specs.Sheet.{sheet}
use Rattle.model.specs.Constraint.{constraint_at}
use Rattle.model.specs.Schedule.{time_window_violation}
use Rattle.model.proofs.ConstraintLaws.{window_row_lem, by_constraint}
use Rattle.definition.specs.ActivitySpan.{Span, activity_span}
use Rattle.definition.specs.CheckConstraints.{check_constraint, check_constraint_at, check_constraints}
use Rattle.check9_constraints.specs.inner.Outside.{outside_at}

module _ (rows : List ℤ) (k : ℕ) where
  reported : (x : Option (Span ℤ)) (test : Span ℤ → Bool) (f : Violation) → option x [] (λ y. given (test y) f) ++ [] ≡ given (option x false test) f
  reported None test f = refl
  reported (Some y) test f = append-nil (given (test y) f)

  pub window_found : is rows k 0 19 ≡ true → check_constraint_at clock (sheet rows) k ≡ given (outside_at rows k) (time_window_violation 9 (num rows k 1))
  unfolding check_constraint_at check_constraint each outside_at
  window_found h =
      rw (window_row_lem rows k h)
      (reported (activity_span clock (sheet rows) (num rows k 1))
      (λ x. clock.before x.start (pos (num rows k 2)) || clock.before (pos (num rows k 3)) x.end)
      (time_window_violation 9 (num rows k 1)))

  none_found : is rows k 0 19 ≡ false → is rows k 0 20 ≡ false → is rows k 0 21 ≡ false → check_constraint_at clock (sheet rows) k ≡ []
  unfolding check_constraint_at each check_constraint
  none_found a b d =
      by_constraint rows k (λ l. each (check_constraint clock (sheet rows) (length (collect (constraint_at (sheet rows)) k))) l ≡ []) refl (λ e. refl) (λ e. refl)
      (λ e. absurd (true≢false (sym e ∙ a))) (λ e. absurd (true≢false (sym e ∙ b))) (λ e. absurd (true≢false (sym e ∙ d)))

  pub none_told : (t : Told) {b d e : Bool} → b ≡ is rows k 0 19 → b ≡ false → d ≡ is rows k 0 20 → d ≡ false → e ≡ is rows k 0 21 → e ≡ false
      → t ≡ tell t (check_constraint_at clock (sheet rows) k)
  none_told t p q r u v w = rw (none_found (sym p ∙ q) (sym r ∙ u) (sym v ∙ w)) (sym (tell_none t))

  -- ---- how many

  count_low : num rows k 0 < 17 → length (constraint_at (sheet rows) k) ≡ 0
  unfolding constraint_at
  count_low l =
      rw
      (ne_eqb (num rows k 0) 17 (λ z. omega arith), ne_eqb (num rows k 0) 18 (λ z. omega arith), ne_eqb (num rows k 0) 19 (λ z. omega arith), ne_eqb (num rows k 0) 20 (λ z. omega arith), ne_eqb (num rows k 0) 21 (λ z. omega arith))

  count_high : 21 < num rows k 0 → length (constraint_at (sheet rows) k) ≡ 0
  unfolding constraint_at
  count_high l =
      rw
      (ne_eqb (num rows k 0) 17 (λ z. omega arith), ne_eqb (num rows k 0) 18 (λ z. omega arith), ne_eqb (num rows k 0) 19 (λ z. omega arith), ne_eqb (num rows k 0) 20 (λ z. omega arith), ne_eqb (num rows k 0) 21 (λ z. omega arith))

  count_one : 17 ≤ num rows k 0 → num rows k 0 ≤ 21 → length (constraint_at (sheet rows) k) ≡ 1
  unfolding constraint_at
  count_one l h =
      go (ℕ_discrete (num rows k 0) 17) (ℕ_discrete (num rows k 0) 18) (ℕ_discrete (num rows k 0) 19) (ℕ_discrete (num rows k 0) 20)
      (ℕ_discrete (num rows k 0) 21)
    where
      go : Dec (num rows k 0 ≡ 17) → Dec (num rows k 0 ≡ 18) → Dec (num rows k 0 ≡ 19) → Dec (num rows k 0 ≡ 20) → Dec (num rows k 0 ≡ 21)
          → length (constraint_at (sheet rows) k) ≡ 1
      go (yes e) x y z w = rw e
      go (no d) (yes e) y z w = rw e
      go (no d) (no f) (yes e) z w = rw e
      go (no d) (no f) (no g) (yes e) w = rw e
      go (no d) (no f) (no g) (no i) (yes e) = rw e
      go (no d) (no f) (no g) (no i) (no j) = absurd (omega arith)

  count_is : length (constraint_at (sheet rows) k) ≡ cond (is_constraint rows k) 1 0
  unfolding is_constraint
  count_is = go (leb_tells 17 (num rows k 0)) (leb_tells (num rows k 0) 21)
    where
      go : ((leb 17 (num rows k 0) ≡ true) × (17 ≤ num rows k 0)) ⊎ ((leb 17 (num rows k 0) ≡ false) × (num rows k 0 < 17))
          → ((leb (num rows k 0) 21 ≡ true) × (num rows k 0 ≤ 21)) ⊎ ((leb (num rows k 0) 21 ≡ false) × (21 < num rows k 0))
          → length (constraint_at (sheet rows) k) ≡ cond (leb 17 (num rows k 0) && leb (num rows k 0) 21) 1 0
      go (inl (e, l)) (inl (f, h)) = rw (e, f) (count_one l h)
      go (inl (e, l)) (inr (f, h)) = rw (e, f) (count_high h)
      go (inr (e, l)) z = rw e (count_low l)

  -- a row that is a constraint is one more, another row none
  pub count_one_more : {b : Bool} → b ≡ is_constraint rows k → b ≡ true → length (constraint_at (sheet rows) k) ≡ 1
  count_one_more e f = count_is ∙ ap (λ x. cond x 1 0) (sym e ∙ f)

  pub count_no_more : {b : Bool} → b ≡ is_constraint rows k → b ≡ false → length (constraint_at (sheet rows) k) ≡ 0
  count_no_more e f = count_is ∙ ap (λ x. cond x 1 0) (sym e ∙ f)

  count_most : length (constraint_at (sheet rows) k) ≤ 1
  count_most = by_constraint rows k (λ l. length l ≤ 1) (omega arith) (λ e. omega arith) (λ e. omega arith) (λ e. omega arith) (λ e. omega arith) (λ e. omega arith)

pub placed_zero : (rows : List ℤ) → 0 ≡ length (collect (constraint_at (sheet rows)) 0)
unfolding collect
placed_zero rows = refl

-- a constraint's place is no greater than its row's
pub place_most : (rows : List ℤ) (k : ℕ) {p q : ℕ} → p ≤ k → q ≡ p + length (constraint_at (sheet rows) k) → q ≤ k + 1
place_most rows k l e = omega (arith, count_most rows k)

pub place_again : (rows : List ℤ) (k : ℕ) {p q : ℕ} → p ≡ length (collect (constraint_at (sheet rows)) k) → q ≡ p + length (constraint_at (sheet rows) k)
    → q ≡ length (collect (constraint_at (sheet rows)) (k + 1))
place_again rows k e f =
    f ∙ ap (λ n. n + length (constraint_at (sheet rows) k)) e
    ∙ sym (length-append (collect (constraint_at (sheet rows)) k) (constraint_at (sheet rows) k))
    ∙ ap length (sym (collect_step (constraint_at (sheet rows)) k))

-- the findings of one row more
pub told_again : (rows : List ℤ) (k : ℕ) (t₀ : Told) {t t' : Told} → t ≡ tell t₀ (collect (check_constraint_at clock (sheet rows)) k) → t' ≡ tell t (check_constraint_at clock (sheet rows) k)
    → t' ≡ tell t₀ (collect (check_constraint_at clock (sheet rows)) (k + 1))
told_again rows k t₀ {t} e f =
    f ∙ ap (λ s. tell s (check_constraint_at clock (sheet rows) k)) e
    ∙ tell_append t₀ (collect (check_constraint_at clock (sheet rows)) k) (check_constraint_at clock (sheet rows) k)
    ∙ ap (tell t₀) (sym (collect_step (check_constraint_at clock (sheet rows)) k))

pub told_zero : (rows : List ℤ) (t : Told) → t ≡ tell t (collect (check_constraint_at clock (sheet rows)) 0)
unfolding collect
told_zero rows t = sym (tell_none t)

pub told_all : (rows : List ℤ) (k n : ℕ) (t₀ : Told) {t : Told} → k ≤ n → n ≤ k → n ≡ row_count rows → t ≡ tell t₀ (collect (check_constraint_at clock (sheet rows)) k)
    → t ≡ tell t₀ (check_constraints clock (sheet rows))
unfolding check_constraints
told_all rows k n t₀ l m z e = e ∙ ap (tell t₀) (collect_done (check_constraint_at clock (sheet rows)) k n (row_count rows) l m z)
