-- The ways in which the call ends. Assumes nothing.
use Rattle.std.specs.Prelude.{Ok, Result, Err, Option, None, Some}
use Prim.Native.Nat.{ℕ, ◌*◌, ◌/◌, ◌≤◌}
use mathlib.Core.Path.{◌≡◌, refl, ap, ◌∙◌}
use mathlib.Core.List.{List}
use native.Mathlib.Omega.{arith}
use borrow.Author.Tests.{le-ltb}
use lib.Dec.{ltb}
use lib.IntN.{ℤ}
use lib.ListN.{length}
use Rattle.loops.specs.Lists.{each}
use Rattle.loops.specs.Search.{or_else}
use Rattle.calendar.specs.Clock.{clock}
use Rattle.refusals.specs.Refusals.{refuse, at}
use Rattle.refusals.specs.declared.Refusal.{Refusal}
use Rattle.refusals.specs.declared.Reason.TheVariants as refusals
use Rattle.loops.proofs.PlaceLaws.{or_none_left}
use Rattle.sheet.specs.Refusals.{refusal_of}
use Rattle.derived_times.specs.Times.{time_refusal}
use Rattle.line_buffer.specs.declared.Handed.{Handed}
use Rattle.line_buffer.specs.declared.Handed.TheVariants.{Over, Full, Longer}
use Rattle.line_buffer.specs.inner.Handing.{handed, after_handing}
use Rattle.line_buffer.proofs.Handing.{not_longer}
use Rattle.line_buffer.proofs.LineLaws.{lines_kept}
use Rattle.line_buffer.proofs.Whole.{count_fits}
use Rattle.model.specs.Sheet.{sheet}
use Rattle.model.specs.Task.{tasks}
use Rattle.load.specs.Load.{booked_resources}
use Rattle.acceptance.specs.Refusals.{sheet_refusal, call_refusal}
use Rattle.owners.specs.declared.sheet_index.SheetIndex.{SheetIndex}
use Rattle.acceptance.specs.inner.Accepting.{Accepting}
use Rattle.acceptance.proofs.Order.{refused_by, sheet_accepted}
use Rattle.acceptance.proofs.Ending.{ends_refused, ends_over, ends_full}
use Rattle.margin_lines.specs.Margins.{three, task_margin, resource_margin, margins, flat_margins}
use Rattle.margin_lines.specs.Call.{margins_refusal, margins_answer, margins_after, RoomForAll}
use Rattle.margin_lines.specs.inner.Sink.{sink, emit_margins}
use Rattle.margin_lines.proofs.Count.{margins_short}
use Rattle.margin_lines.proofs.Told.{all_told}

-- the call on these rows, lent the buffer o, answers so and leaves the buffer o'
abbrev Ends : List ℤ → List ℤ → Result ℕ Refusal → List ℤ → Type 0
Ends rows o answer o' = (answer ≡ margins_answer rows (length o / 3)) × (o' ≡ margins_after rows o)

-- an accepted sheet is refused by no row
pub rows_pass : (rows : List ℤ) → sheet_refusal rows ≡ None → refusal_of rows ≡ None
unfolding sheet_refusal
rows_pass rows h = or_none_left (refusal_of rows) (time_refusal rows) h

-- each line is of a row, and a sheet has 800 rows at most
few_margins : (rows : List ℤ) → sheet_refusal rows ≡ None → length (margins rows) ≤ 800
few_margins rows passed = let most : length rows ≤ 8000 = (sheet_accepted rows passed).short in omega (arith, margins_short rows)

pub room_for_all : RoomForAll
unfolding margins_refusal call_refusal
room_for_all rows room l = go (sheet_refusal rows) refl
  where
    go : (o : Option Refusal) → sheet_refusal rows ≡ o → or_else o (refuse (ltb room (length (margins rows))) refusals.Full 0) ≡ o
    go None e = let h : length (margins rows) ≤ room = omega (arith, few_margins rows e) in rw (le-ltb room (length (margins rows)) h)
    go (Some x) e = refl

-- ---- refused by 1 to 6

module _ (rows o : List ℤ) {v : Result Unit Refusal} {x : Refusal} {before after : SheetIndex} (a : Accepting rows before v after) (e : v ≡ Err x) where
  refused_sheet : Ends rows o (Err x) o
  unfolding margins_refusal margins_answer margins_after flat_margins
  refused_sheet = ends_refused 3 three (omega arith) (λ m. refl) rows (margins rows) o (refused_by rows a e)

  pub refused_answer : {b : Result ℕ Refusal} → b ≡ Err x → b ≡ margins_answer rows (length o / 3)
  refused_answer b = b ∙ refused_sheet.0

  pub refused_left : o ≡ margins_after rows o
  refused_left = refused_sheet.1

-- ---- the margins, found in a buffer for 800 lines, and handed over

-- the tasks, then the resources
ran : (rows o₀ : List ℤ) {x y : List ℤ} {n k : ℕ} → sink x n ≡ emit_margins (sink o₀ 0) (each (task_margin clock (sheet rows)) (tasks (sheet rows)))
    → sink y k ≡ emit_margins (sink x n) (each (resource_margin clock (sheet rows)) (booked_resources (sheet rows))) → sink y k ≡ emit_margins (sink o₀ 0) (margins rows)
ran rows o₀ of-tasks of-resources = of-resources ∙ ap (λ s. emit_margins s (each (resource_margin clock (sheet rows)) (booked_resources (sheet rows)))) of-tasks ∙ all_told rows (sink o₀ 0)

module _ (rows o o₀ : List ℤ) {y : List ℤ} {k : ℕ} {r : Handed} (passed : sheet_refusal rows ≡ None) (wrote : sink y k ≡ emit_margins (sink o₀ 0) (margins rows))
    (told : r ≡ handed (length o / 3) (length y / 3) k) (room : length o₀ ≡ 2400) where
  counted : k ≡ length (margins rows)
  counted = omega (arith, count_fits 3 three o₀ (margins rows) wrote, few_margins rows passed)

  module _ {o' : List ℤ} (left : o' ≡ after_handing r (k * 3) y o) where
    ends_copied : r ≡ Over → Ends rows o (Ok k) o'
    unfolding margins_refusal margins_answer margins_after flat_margins
    ends_copied over = ends_over 3 three (omega arith) (λ m. refl) rows (margins rows) o passed o₀ wrote told counted (omega arith) left over

    ends_refused_full : r ≡ Full → Ends rows o (Err (at refusals.Full 0)) o'
    unfolding margins_refusal margins_answer margins_after flat_margins
    ends_refused_full full = ends_full 3 three (omega arith) (λ m. refl) rows (margins rows) o passed o₀ wrote told left full

    pub over_answer : r ≡ Over → Ok k ≡ margins_answer rows (length o / 3)
    over_answer over = (ends_copied over).0

    pub over_left : r ≡ Over → o' ≡ margins_after rows o
    over_left over = (ends_copied over).1

    pub full_answer : {e : Refusal} → e ≡ at refusals.Full 0 → r ≡ Full → Err e ≡ margins_answer rows (length o / 3)
    full_answer a full = rw a (ends_refused_full full).0

    pub full_left : r ≡ Full → o' ≡ margins_after rows o
    full_left full = (ends_refused_full full).1

    -- never: 800 lines are held
    all_held : r ≡ Longer → ⊥
    all_held longer =
        let held : length y ≡ length o₀ = lines_kept 3 three o₀ 0 (margins rows) wrote in
        not_longer (length o / 3) (length y / 3) k (omega (arith, counted, few_margins rows passed)) told longer

    pub longer_answer : {e : Refusal} → r ≡ Longer → Err e ≡ margins_answer rows (length o / 3)
    longer_answer longer = absurd (all_held longer)

    pub longer_left : r ≡ Longer → o' ≡ margins_after rows o
    longer_left longer = absurd (all_held longer)
