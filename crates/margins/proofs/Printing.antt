-- What stands in the buffer after the margins of a sheet were printed. Assumes nothing.
use Rattle.std.specs.Prelude.{Result, Ok, Err, Option, None, Some}
use Prim.Native.Nat.{ℕ, ◌/◌, ◌^◌, ◌<◌, ◌≤◌}
use mathlib.Core.Path.{◌≡◌, refl, sym, ap₂, ◌∙◌}
use mathlib.Core.List.{List, ◌++◌}
use native.Mathlib.Omega.{arith}
use lib.IntN.{ℤ}
use lib.ListN.{length, take, drop}
use Rattle.loops.specs.inner.Wrote.{Wrote}
use Rattle.refusals.specs.Refusals.{number_of}
use Rattle.refusals.specs.declared.Refusal.{Refusal}
use Rattle.refusals.specs.Lending.{answered, lent_after}
use Rattle.refusals.proofs.AnswerLaws.{no_accept, same_count}
use Rattle.acceptance.proofs.Ending.{had_room}
use Rattle.printing.specs.Printed.{printed_refused}
use Rattle.printing.proofs.FitLaws.{Small}
use Rattle.text_program.proofs.Printing.{stands, refused_first}
use Rattle.margin_lines.specs.Margins.{margins, flat_margins}
use Rattle.margin_lines.specs.Call.{margins_refusal, margins_answer, margins_after}
use Rattle.margins.specs.Program.{printed_margins}
use Rattle.margins.specs.inner.Bytes.{lines_bytes}
use Rattle.margins.proofs.Lines.{lines_length, lines_are}

module _ (rows before : List ℤ) (room : 2400 ≡ length before) {a : Result ℕ Refusal} (told : a ≡ margins_answer rows (length before / 3)) where
  eight_hundred : length before / 3 ≡ 800
  eight_hundred = omega arith

  answer_is : a ≡ margins_answer rows 800
  answer_is = rw eight_hundred at told

  -- the lines of an accepted sheet, as the call leaves them
  record Found (numbers : List ℤ) (n : ℕ) : Type 0 where
    all : n ≡ length (margins rows)
    few : n ≤ 800
    first : numbers ≡ flat_margins (margins rows) ++ drop (length (flat_margins (margins rows))) before

  found_by : (o : Option Refusal) {n : ℕ} → margins_refusal rows 800 ≡ o → answered o (length (margins rows)) ≡ Ok n
      → Found (lent_after o (flat_margins (margins rows)) before) n
  unfolding margins_refusal
  found_by None {n = n} e q =
      let all : n ≡ length (margins rows) = sym (same_count q) in
      record { all = all; few = omega (arith, had_room rows (length (margins rows)) 800 e); first = refl }
  found_by (Some x) e q = absurd (no_accept q)

  found_is : {n : ℕ} → a ≡ Ok n → Found (lent_after (margins_refusal rows 800) (flat_margins (margins rows)) before) n
  unfolding margins_answer
  found_is q = found_by (margins_refusal rows 800) refl (sym answer_is ∙ q)

  pub few_lines : {n : ℕ} → a ≡ Ok n → n ≤ 800
  few_lines q = (found_is q).few

  -- the call's buffer, lent, is handed on as the numbers
  module _ {o o' : List ℕ} {r n : ℕ} (lent numbers : List ℤ) (w : Wrote o 0 o' r (lines_bytes numbers n)) (long : length o ≡ 40800) (q : a ≡ Ok n)
      (same : numbers ≡ lent) (e : lent ≡ margins_after rows before) (small : Small numbers) where
    left : numbers ≡ lent_after (margins_refusal rows 800) (flat_margins (margins rows)) before
    unfolding margins_after
    left = same ∙ (rw eight_hundred at e)

    stood : (r ≤ 40800) × (take r o' ≡ lines_bytes numbers n)
    stood = stands o (lines_bytes numbers n) long (omega (arith, lines_length numbers small n, (found_is q).few)) w

    pub lines_within : r ≤ 40800
    lines_within = stood.0

    pub lines_printed : take r o' ≡ printed_margins rows
    unfolding printed_margins
    lines_printed =
        let z : margins_answer rows 800 ≡ Ok n = sym answer_is ∙ q in
        stood.1 ∙ ap₂ lines_bytes (left ∙ (found_is q).first) (found_is q).all ∙ lines_are (margins rows) _ ∙ rw z

  pub refusal_printed : {o o' : List ℕ} {r : ℕ} {e : Refusal} → Wrote o 0 o' r (printed_refused (number_of e.reason) e.place) → length o ≡ 40800 → a ≡ Err e
      → e.place < 2 ^ 64 → take r o' ≡ printed_margins rows
  unfolding printed_margins
  refusal_printed {e = e} w long q l =
      let z : margins_answer rows 800 ≡ Err e = sym answer_is ∙ q in rw z (refused_first e w long (omega arith) l)
