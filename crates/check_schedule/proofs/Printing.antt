-- What stands in the buffer after `print_answer`, of a sheet. Assumes nothing.
use Rattle.std.specs.Prelude.{Result, Ok, Err, Option, None, Some}
use Prim.Native.Nat.{ℕ, ◌+◌, ◌*◌, ◌/◌, ◌≤◌, min}
use mathlib.Core.Path.{◌≡◌, refl, sym, ap, ◌∙◌, subst}
use mathlib.Core.List.{List, ◌∷◌, ◌++◌}
use native.Mathlib.Omega.{arith}
use lib.IntN.{ℤ}
use lib.ListN.{length, take, drop, length-drop}
use lib.Seq.{sets, take-append-le, drop-append-le}
use Rattle.loops.specs.inner.Wrote.{Wrote}
use Rattle.loops.proofs.RangeLaws.{collect_ext}
use Rattle.refusals.specs.declared.Refusal.{Refusal}
use Rattle.refusals.specs.Lending.{answered, lent_after}
use Rattle.findings.specs.Findings.{flat}
use Rattle.findings.proofs.SinkLaws.{flat_length}
use Rattle.definition.specs.CheckSchedule.{findings}
use Rattle.acceptance.proofs.Ending.{had_room}
use Rattle.feasibility.specs.Refusals.{refusal}
use Rattle.feasibility.specs.Call.{check_answer, findings_after}
use Rattle.printing.specs.Decimal.{decimal}
use Rattle.printing.specs.NumberLines.{number_line, line_at, number_lines}
use Rattle.printing.specs.Printed.{accepted_word, printed_accepted, printed}
use Rattle.printing.proofs.FitLaws.{Small, accepted_fits}
use Rattle.text_program.proofs.Printing.{Bounded, refusal_fits, stands}
use Rattle.check_schedule.specs.Program.{printed_sheet}

-- ---- what is printed of findings is that of their lines, whatever follows them

module _ (xs ys : List ℤ) where
  line_first : (k : ℕ) → k * 4 + 4 ≤ length xs → number_line (line_at 4 (xs ++ ys) k) ≡ number_line (line_at 4 xs k)
  unfolding line_at
  line_first k h =
      let long : 4 ≤ length (drop (k * 4) xs) = simp length-drop (omega arith) in
      ap number_line (ap (take 4) (drop-append-le (k * 4) xs ys (omega arith)) ∙ take-append-le 4 (drop (k * 4) xs) ys long)

  accepted_first : (n : ℕ) → length xs ≡ 4 * n → printed_accepted n (xs ++ ys) ≡ printed_accepted n xs
  unfolding printed_accepted number_lines
  accepted_first n h = ap (λ l. accepted_word ++ decimal n ++ 10 ∷ l) (collect_ext _ _ n (λ k l. line_first k (omega arith)))

-- ---- a sheet

-- as many as are lent
abbrev pub Few : Result ℕ Refusal → Type 0
Few (Ok n) = n ≤ 2000
Few (Err e) = Unit {0}

few : (rows : List ℤ) (o : Option Refusal) → refusal rows 2000 ≡ o → Few (answered o (length (findings rows)))
unfolding refusal
few rows None e = had_room rows (length (findings rows)) 2000 e
few rows (Some x) e = tt

fits : (a : Result ℕ Refusal) (found : List ℤ) → Small found → Bounded a → Few a → length (printed a found) ≤ 168030
fits (Ok n) found s b f = accepted_fits found s n f
fits (Err e) found s b f = omega (arith, refusal_fits e b)

as_written : (rows before : List ℤ) (o : Option Refusal)
    → printed (answered o (length (findings rows))) (lent_after o (flat (findings rows)) before) ≡ printed (answered o (length (findings rows))) (flat (findings rows))
as_written rows before None = accepted_first (flat (findings rows)) _ (length (findings rows)) (flat_length (findings rows))
as_written rows before (Some x) = refl

-- the call's buffer, lent, is handed on as found
module _ (rows before : List ℤ) (room : 8000 ≡ length before) (o : List ℕ) (long : length o ≡ 168030) {o' : List ℕ} {r : ℕ}
    (a : Result ℕ Refusal) (p : a ≡ check_answer rows (length before / 4)) (lent found : List ℤ) (q : lent ≡ findings_after rows before) (same : found ≡ lent)
    (small : Small found) (bounded : Bounded a) (told : r ≡ min (length (printed a found)) (length o)) (put : o' ≡ sets o 0 (printed a found)) where
  two_thousand : length before / 4 ≡ 2000
  two_thousand = omega arith

  answer : a ≡ answered (refusal rows 2000) (length (findings rows))
  unfolding check_answer
  answer = rw two_thousand at p

  left : found ≡ lent_after (refusal rows 2000) (flat (findings rows)) before
  unfolding findings_after
  left = same ∙ (rw two_thousand at q)

  wrote : Wrote o 0 o' r (printed a found)
  wrote = record { place = omega (arith, told); buffer = put }

  stood : (r ≤ 168030) × (take r o' ≡ printed a found)
  stood = stands o (printed a found) long (fits a found small bounded (subst Few (sym answer) (few rows (refusal rows 2000) refl))) wrote

  pub sheet_within : r ≤ 168030
  sheet_within = stood.0

  pub sheet_printed : take r o' ≡ printed_sheet rows
  unfolding printed_sheet check_answer
  sheet_printed = stood.1 ∙ (λ i. printed (answer i) (left i)) ∙ as_written rows before (refusal rows 2000)
