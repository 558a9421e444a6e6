-- Two accepted sheets, the second being the first with one number of milliseconds added to every instant, have the same margins. Assumes nothing.
use Rattle.std.specs.Prelude.{Ok, Option, None, Some}
use Prim.Native.Nat.{ℕ, ◌*◌, ◌/◌}
use mathlib.Core.Path.{◌≡◌, refl, sym, ◌∙◌, ap, ap₂}
use mathlib.Core.Bool.{Bool, true, false}
use mathlib.Core.List.{List, [], ◌++◌}
use native.Mathlib.Omega.{arith}
use lib.IntN.{ℤ}
use lib.ListN.{length, take}
use Rattle.loops.specs.Lists.{option, each}
use Rattle.loops.proofs.PartLaws.{collect_nothing, each_nothing}
use Rattle.line_buffer.proofs.Whole.{flat_length}
use Rattle.calendar.specs.Clock.{Clock, clock}
use Rattle.model.specs.Sheet.{Sheet, sheet}
use Rattle.model.specs.Task.{Task, tasks}
use Rattle.load.specs.Load.{booked_at, booked_resources}
use Rattle.shift.specs.Shift.{Shifted}
use Rattle.shift.specs.inner.InClass.{InClass}
use Rattle.shift.proofs.Bare.{Bare, no_booking, no_completion}
use Rattle.shift.proofs.Moved.{far, bare, bare'}
use Rattle.shift.proofs.Shift.{same_by_clock}
use Rattle.refusals.specs.Lending.{answered}
use Rattle.refusals.proofs.AnswerLaws.{accepted_lines}
use Rattle.acceptance.specs.Refusals.{sheet_refusal}
use Rattle.acceptance.proofs.Ending.{same_refusal}
use Rattle.acceptance.proofs.Order.{sheet_accepted}
use Rattle.margin_lines.specs.declared.lines.Margin.{Margin}
use Rattle.margin_lines.specs.Margins.{three, task_margin, resource_margin, margin_lines, margins, flat_margins}
use Rattle.margin_lines.specs.Call.{margins_refusal, margins_answer, margins_after}
use Rattle.margin_lines.specs.Sliding.{MarginsSlide}

-- ---- by the definition

-- nothing is planned: no task has a completion, and no resource is booked
module _ {T : Type 0} (K : Clock T) (s : Sheet T) (nothing-planned : Bare s) where
  no_task_margin : (t : Task T) → task_margin K s t ≡ []
  unfolding task_margin
  no_task_margin t = rw (no_completion K s nothing-planned t.id) (go t.deadline)
    where
      go : (deadline : Option T) → option {B = List Margin} deadline [] (λ d. []) ≡ []
      go None = refl
      go (Some d) = refl

  none_booked : booked_resources s ≡ []
  unfolding booked_resources booked_at each
  none_booked = collect_nothing (booked_at s) (λ k. rw (no_booking K s nothing-planned k)) s.count

  no_margin : margin_lines K s ≡ []
  unfolding margin_lines each
  no_margin = ap₂ ◌++◌ (each_nothing (task_margin K s) no_task_margin (tasks s)) (ap (each (resource_margin K s)) none_booked)

-- by the clock alone where no instant becomes none; where one might, neither sheet has a booking or a span
same_margins : (d : ℤ) (a b : List ℤ) → InClass a → InClass b → Shifted d a b → margins a ≡ margins b
unfolding margins
same_margins d a b okA okB h = go (far d) refl
  where
    go : (t : Bool) → far d ≡ t → margin_lines clock (sheet a) ≡ margin_lines clock (sheet b)
    go true f = no_margin clock (sheet a) (bare d a b h f okA okB) ∙ sym (no_margin clock (sheet b) (bare' d a b h f okA okB))
    go false f = same_by_clock (λ T K s. margin_lines K s) d a b f okA okB h

-- ---- as calls write them

same_answer : (a b : List ℤ) (room : ℕ) → sheet_refusal a ≡ None → sheet_refusal b ≡ None → margins a ≡ margins b → margins_answer a room ≡ margins_answer b room
unfolding margins_answer margins_refusal
same_answer a b room p q same = ap₂ answered (same_refusal a b room p q (ap length same)) (ap length same)

margins_length : (l : List Margin) → length (flat_margins l) ≡ 3 * length l
unfolding flat_margins
margins_length l = omega (arith, flat_length 3 three (omega arith) (λ m. refl) l)

-- what stands in the buffer after a call that accepts
first_lines : (rows before : List ℤ) (n : ℕ) → margins_answer rows (length before / 3) ≡ Ok n
    → (n ≡ length (margins rows)) × (take (3 * n) (margins_after rows before) ≡ flat_margins (margins rows))
unfolding margins_answer margins_after
first_lines rows before n e = accepted_lines 3 (margins_refusal rows (length before / 3)) (flat_margins (margins rows)) before (margins_length (margins rows)) e

same_calls : (a b : List ℤ) → margins a ≡ margins b → (before before' : List ℤ) (n m : ℕ) → margins_answer a (length before / 3) ≡ Ok n
    → margins_answer b (length before' / 3) ≡ Ok m → (n ≡ m) × (take (3 * n) (margins_after a before) ≡ take (3 * m) (margins_after b before'))
same_calls a b same before before' n m p q =
    let x = first_lines a before n p in
    let y = first_lines b before' m q in
    (x.0 ∙ ap length same ∙ sym y.0, x.1 ∙ ap flat_margins same ∙ sym y.1)

pub margins_slide : MarginsSlide
margins_slide d a b okA okB h =
    let in_class_lem : (rows : List ℤ) → sheet_refusal rows ≡ None → InClass rows = λ rows ok. record { columns = (sheet_accepted rows ok).columns } in
    let same : margins a ≡ margins b = same_margins d a b (in_class_lem a okA) (in_class_lem b okB) h in
    record {
      defined = same;
      answers = λ room. same_answer a b room okA okB same;
      calls = same_calls a b same;
    }
