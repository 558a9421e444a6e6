-- The ways in which the call ends, from what its passes over the checks ensure. Assumes nothing.
use Rattle.std.specs.Prelude.{Ok, Result, Err, None, Some}
use Prim.Native.Nat.{ℕ, ◌*◌, ◌/◌, ◌^◌, ◌<◌}
use mathlib.Core.Path.{◌≡◌, refl, ap, subst, ◌∙◌}
use mathlib.Core.List.{List, ◌++◌, append_assoc}
use native.Mathlib.Omega.{arith}
use lib.IntN.{ℤ}
use lib.ListN.{length}
use Rattle.findings.specs.Findings.{four, flat}
use Rattle.findings.specs.inner.Sink.{Sink, sink, emit}
use Rattle.line_buffer.specs.declared.Handed.{Handed}
use Rattle.line_buffer.specs.declared.Handed.TheVariants.{Over, Full, Longer}
use Rattle.line_buffer.specs.inner.Handing.{handed, after_handing}
use Rattle.line_buffer.proofs.Handing.{is_over}
use Rattle.findings.proofs.SinkLaws.{emit_then}
use Rattle.refusals.specs.Refusals.{verdict_of, at}
use Rattle.refusals.specs.declared.Refusal.{Refusal}
use Rattle.refusals.specs.declared.Reason.TheVariants as refusals
use Rattle.sheet.specs.Refusals.{refusal_of}
use Rattle.derived_times.specs.Times.{time_refusal}
use Rattle.calendar.specs.Clock.{clock}
use Rattle.model.specs.Sheet.{sheet}
use Rattle.definition.specs.CheckAssignments.{check_assignments}
use Rattle.definition.specs.CheckTimeOnly.{check_time_only}
use Rattle.definition.specs.CheckParts.{check_parts}
use Rattle.definition.specs.CheckRequirements.{check_requirements}
use Rattle.definition.specs.CheckCapacity.{check_capacity}
use Rattle.definition.specs.CheckCalendars.{check_calendars}
use Rattle.definition.specs.CheckPrecedence.{check_precedence}
use Rattle.definition.specs.CheckDeadlines.{check_deadlines}
use Rattle.definition.specs.CheckConstraints.{check_constraints}
use Rattle.definition.specs.CheckSchedule.{check_schedule, findings}
use Rattle.acceptance.specs.Refusals.{sheet_refusal}
use Rattle.acceptance.proofs.Order.{by_rows, by_times}
use Rattle.acceptance.proofs.Ending.{ends_refused, ends_over, ends_full, all_counted, ends_longer}
use Rattle.feasibility.specs.Refusals.{refusal}
use Rattle.feasibility.specs.Call.{check_answer, findings_after}

-- checks that run one after the other have told their findings one after the other
pub all_in_turn : (rows q r : List ℤ) → q ≡ rows → r ≡ rows → (s s₁ s₂ s₃ s₄ s₅ s₆ s₇ s₈ : Sink) {s₉ : Sink} → s₁ ≡ emit s (check_assignments clock (sheet rows)) → s₂ ≡ emit s₁ (check_time_only clock (sheet rows)) → s₃ ≡ emit s₂ (check_parts (sheet rows))
    → s₄ ≡ emit s₃ (check_requirements clock (sheet rows)) → s₅ ≡ emit s₄ (check_capacity clock (sheet rows)) → s₆ ≡ emit s₅ (check_calendars clock (sheet rows))
    → s₇ ≡ emit s₆ (check_precedence clock (sheet rows)) → s₈ ≡ emit s₇ (check_deadlines clock (sheet q)) → s₉ ≡ emit s₈ (check_constraints clock (sheet r)) → s₉ ≡ emit s (findings rows)
unfolding findings check_schedule
all_in_turn rows q r u v s s₁ s₂ s₃ s₄ s₅ s₆ s₇ s₈ {s₉} a b c d e f g h i =
    let l1 = check_assignments clock (sheet rows) in
    let e2 = emit_then l1 (check_time_only clock (sheet rows)) s a b in
    let l2 = l1 ++ check_time_only clock (sheet rows) in
    let e3 = emit_then l2 (check_parts (sheet rows)) s e2 c in
    let l3 = l2 ++ check_parts (sheet rows) in
    let e4 = emit_then l3 (check_requirements clock (sheet rows)) s e3 d in
    let l4 = l3 ++ check_requirements clock (sheet rows) in
    let e5 = emit_then l4 (check_capacity clock (sheet rows)) s e4 e in
    let l5 = l4 ++ check_capacity clock (sheet rows) in
    let e6 = emit_then l5 (check_calendars clock (sheet rows)) s e5 f in
    let l6 = l5 ++ check_calendars clock (sheet rows) in
    let e7 = emit_then l6 (check_precedence clock (sheet rows)) s e6 g in
    let l7 = l6 ++ check_precedence clock (sheet rows) in
    let e8 = emit_then l7 (check_deadlines clock (sheet rows)) s e7 (subst (λ x. s₈ ≡ emit s₇ (check_deadlines clock (sheet x))) u h) in
    let l8 = l7 ++ check_deadlines clock (sheet rows) in
    let e9 = emit_then l8 (check_constraints clock (sheet rows)) s e8 (subst (λ x. s₉ ≡ emit s₈ (check_constraints clock (sheet x))) v i) in
    e9 ∙ ap (emit s) (simp append_assoc refl)

-- the call on these rows, lent the buffer o, answers so and leaves the buffer o'
abbrev pub Ends : List ℤ → List ℤ → Result ℕ Refusal → List ℤ → Type 0
Ends rows o answer o' = (answer ≡ check_answer rows (length o / 4)) × (o' ≡ findings_after rows o)

module _ (rows o : List ℤ) where
  -- refused by 1 to 6
  refused_sheet : {e : Refusal} → sheet_refusal rows ≡ Some e → Ends rows o (Err e) o
  unfolding refusal check_answer findings_after flat
  refused_sheet h = ends_refused 4 four (omega arith) (λ f. refl) rows (findings rows) o h

  module _ {v : Result Unit Refusal} {e : Refusal} where
    pub rows_answer : {a : Result ℕ Refusal} → verdict_of v ≡ refusal_of rows → v ≡ Err e → a ≡ Err e → a ≡ check_answer rows (length o / 4)
    rows_answer q e b = b ∙ (refused_sheet (by_rows rows q e)).0

    pub rows_left : verdict_of v ≡ refusal_of rows → v ≡ Err e → o ≡ findings_after rows o
    rows_left q e = (refused_sheet (by_rows rows q e)).1

    pub times_answer : {b : Result ℕ Refusal} → verdict_of v ≡ time_refusal rows → refusal_of rows ≡ None → v ≡ Err e → b ≡ Err e → b ≡ check_answer rows (length o / 4)
    times_answer q a e b = b ∙ (refused_sheet (by_times rows a q e)).0

    pub times_left : verdict_of v ≡ time_refusal rows → refusal_of rows ≡ None → v ≡ Err e → o ≡ findings_after rows o
    times_left q a e = (refused_sheet (by_times rows a q e)).1

  module _ (passed : sheet_refusal rows ≡ None) (o₀ : List ℤ) {x : List ℤ} {k : ℕ} {r : Handed} (short : length o < 2 ^ 60)
      (ran : sink x k ≡ emit (sink o₀ 0) (findings rows)) (told : r ≡ handed (length o / 4) (length x / 4) k) where
    -- the first pass held them all, and they were copied
    pub accepted_copy : {o' : List ℤ} → length o₀ ≡ 4096 → o' ≡ after_handing r (k * 4) x o → r ≡ Over → Ends rows o (Ok k) o'
    unfolding refusal check_answer findings_after flat emit
    accepted_copy room left over =
        let all : k ≡ length (findings rows) =
        all_counted 4 four (omega arith) (λ f. refl) rows (findings rows) o passed o₀ ran told short (is_over (length o / 4) (length x / 4) k told over).0 in
        ends_over 4 four (omega arith) (λ f. refl) rows (findings rows) o passed o₀ ran told all (omega arith) left over

    pub refused_full : {o' : List ℤ} → o' ≡ after_handing r (k * 4) x o → r ≡ Full → Ends rows o (Err (at refusals.Full 0)) o'
    unfolding refusal check_answer findings_after flat emit
    refused_full left full = ends_full 4 four (omega arith) (λ f. refl) rows (findings rows) o passed o₀ ran told left full

    -- it held fewer, and the second one wrote them
    pub accepted_all : {o₁ o' : List ℤ} {n : ℕ} → o₁ ≡ after_handing r (k * 4) x o → r ≡ Longer → sink o' n ≡ emit (sink o₁ 0) (findings rows) → Ends rows o (Ok n) o'
    unfolding refusal check_answer findings_after flat emit
    accepted_all left longer again = ends_longer 4 four (omega arith) (λ f. refl) rows (findings rows) o passed o₀ ran told short left longer again
