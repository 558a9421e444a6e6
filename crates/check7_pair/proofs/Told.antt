-- What the code tells of two steps is what `check_pair` says. Assumes nothing.
use Prim.Native.Nat.{ℕ, ◌^◌, ◌<◌}
use mathlib.Core.Path.{◌≡◌, refl, sym, ap, ◌∙◌}
use mathlib.Core.Bool.{Bool, false}
use mathlib.Core.List.{List, [], ◌++◌, append-nil}
use Rattle.std.specs.Prelude.{Option, None, Some}
use lib.IntN.{ℤ, pos, ◌+ℤ◌, +ℤ_comm}
use lib.Signed.{lt_z, mag}
use mir.Syntax.{w64}
use mir.Val.{to_z, of_z, hbits}
use mir.Facts.{to_z-of_z}
use borrow.Author.Rules.{sfits_of}
use Rattle.loops.specs.Lists.{given, each, option}
use Rattle.calendar.specs.Clock.{clock}
use Rattle.rows.specs.Cells.{cell, num}
use Rattle.findings.specs.declared.Violation.{Violation}
use Rattle.findings.specs.inner.Told.{Told, tell}
use Rattle.findings.proofs.Reporting.{tell_none, tell_append}
use Rattle.overlap.specs.declared.Overlap.{Overlap}
use Rattle.overlap.specs.Bounds.{overlap_of, earliest_start, earliest_end}
use Rattle.model.specs.Sheet.{sheet}
use Rattle.model.specs.Resource.{transport_between}
use Rattle.model.specs.Activity.{overlap}
use Rattle.model.specs.inner.Records.{activity_of}
use Rattle.model.specs.Schedule.{precedence_violation}
use Rattle.definition.specs.ActivitySpan as page
use Rattle.definition.specs.ActivitySpan.{activity_span}
use Rattle.definition.specs.CheckPrecedence.{runs_on_all, pieces_of, check_pair}
use Rattle.spans.specs.declared.Span.{Span}
use Rattle.spans.specs.declared.ActivitySpan.{ActivitySpan}
use Rattle.spans.specs.declared.ActivitySpan.TheVariants.{Between, Nowhere}
use Rattle.spans.specs.inner.Activities.{span_found, span_meant}
use Rattle.check7_pair.specs.inner.Tests.{starts_early, ends_early}
use Rattle.check7_pair.proofs.Moved.{moved_is}

module _ (rows : List ℤ) (before after : ℕ) where
  -- the activity of row `after` against that of row `before`
  abbrev pair : List Violation
  pair = check_pair clock (sheet rows) (activity_of rows before) (activity_of rows after)

  -- the finding of a piece that starts early, and that of an early end
  abbrev starts : ℤ → List Violation
  starts from = given (starts_early rows (num rows before 1) (num rows after 1) from) (precedence_violation 7 (num rows after 1))

  abbrev ends : ℤ → List Violation
  ends earliest = given (ends_early rows (num rows before 1) (num rows after 1) earliest) (precedence_violation 7 (num rows after 1))

  -- both, of the overlap of row k
  pub both_told : (k a e : ℕ) {v : Overlap} {bits from : ℕ} {lag earliest : ℤ} (t : Told) {t₁ t₂ : Told}
      → t₂ ≡ tell t₁ (ends (to_z w64 (of_z w64 earliest))) → t₁ ≡ tell t (starts (pos from))
      → pos from ≡ earliest_start clock v (pos a) (pos e) → earliest ≡ earliest_end clock v (pos e) → mag earliest < 2 ^ hbits w64
      → v ≡ overlap_of bits (to_z w64 (of_z w64 lag)) → mag lag < 2 ^ hbits w64 → bits ≡ num rows k 2 → lag ≡ cell rows k 3
      → t₂ ≡ tell t (starts (earliest_start clock (overlap_of (num rows k 2) (cell rows k 3)) (pos a) (pos e)) ++ ends (earliest_end clock (overlap_of (num rows k 2) (cell rows k 3)) (pos e)))
  both_told k a e {v} {bits} {from} {lag} {earliest} t {t₁} q p f g m h l i j =
      let w : v ≡ overlap_of (num rows k 2) (cell rows k 3) = rw (← i, ← j) (rw (to_z-of_z (sfits_of l)) at h) in
      rw (to_z-of_z (sfits_of m)) at q
      ∙ ap (λ z. tell t₁ (ends z)) (g ∙ ap (λ o. earliest_end clock o (pos e)) w)
      ∙ ap (λ z. tell z (ends (earliest_end clock (overlap_of (num rows k 2) (cell rows k 3)) (pos e)))) (p ∙ ap (λ z. tell t (starts z)) (f ∙ ap (λ o. earliest_start clock o (pos a) (pos e)) w))
      ∙ tell_append t _ _

  -- ---- the definition, case by case

  module _ (t : Told) {x : ActivitySpan} (q : span_meant (span_found x) ≡ activity_span clock (sheet rows) (num rows before 1)) where
    pub no_previous : x ≡ Nowhere → t ≡ tell t pair
    unfolding check_pair
    no_previous z = rw (← q, z) (sym (tell_none t))

    module _ {s : Span} {t' : Told} (z : x ≡ Between s) where
      pub in_order_lem : t' ≡ tell t (starts (pos s.end)) → overlap (sheet rows) (num rows after 1) ≡ None → t' ≡ tell t pair
      unfolding check_pair starts_early
      in_order_lem h o = rw (← q, z, o) (h ∙ ap (tell t) (sym (append-nil (starts (pos s.end)))))

      pub overlapping : {o : Overlap} → t' ≡ tell t (starts (earliest_start clock o (pos s.start) (pos s.end)) ++ ends (earliest_end clock o (pos s.end)))
          → overlap (sheet rows) (num rows after 1) ≡ Some o → t' ≡ tell t pair
      unfolding check_pair starts_early ends_early
      overlapping {o} h w =
          rw (← q, z, w)
          (h ∙ ap (λ l. tell t (starts (earliest_start clock o (pos s.start) (pos s.end)) ++ l)) (sym (told_end (activity_span clock (sheet rows) (num rows after 1)))))
        where
          late : page.Span ℤ → Bool
          late y = lt_z y.end (earliest_end clock o (pos s.end) +ℤ pos (transport_between (sheet rows) (runs_on_all clock (sheet rows) (num rows before 1)) (each (λ p. p.to) (pieces_of clock (sheet rows) (num rows after 1)))))

          late' : page.Span ℤ → Bool
          late' y = lt_z y.end (pos (transport_between (sheet rows) (runs_on_all clock (sheet rows) (num rows before 1)) (runs_on_all clock (sheet rows) (num rows after 1))) +ℤ earliest_end clock o (pos s.end))

          same : (y : page.Span ℤ) → late y ≡ late' y
          same y =
              ap (lt_z y.end)
              (ap (λ m. earliest_end clock o (pos s.end) +ℤ pos m) (moved_is clock (sheet rows) (runs_on_all clock (sheet rows) (num rows before 1)) (num rows after 1))
              ∙ +ℤ_comm (earliest_end clock o (pos s.end)) (pos (transport_between (sheet rows) (runs_on_all clock (sheet rows) (num rows before 1)) (runs_on_all clock (sheet rows) (num rows after 1)))))

          told_end : (y : Option (page.Span ℤ))
              → option y [] (λ y. given (late y) (precedence_violation 7 (num rows after 1))) ≡ given (option y false late') (precedence_violation 7 (num rows after 1))
          told_end None = refl
          told_end (Some y) = ap (λ b. given b (precedence_violation 7 (num rows after 1))) (same y)
