use Rattle.std.specs.Prelude.{ℕ, Result, Ok, Err}
use Rattle.refusals.specs.declared.Refusal.{Refusal}
use borrow.Author.Rules.{rules}
use contract.Lifetimes.{Lfts}
use Rattle.text_program.proofs.Printing.{Bounded, small_numbers}
use Rattle.check_schedule.proofs.Printing.{sheet_printed, sheet_within}
use Rattle.check_schedule.proofs.print_sheet.Lts as lts
use Rattle.check_schedule.proofs.print_sheet.Goals as goal

-- the answer's numbers are of 64 bits
bounded : (κs : Lfts 2) (a : Result ℕ Refusal) → (lts.r-0).is.Ok κs a → Bounded a
bounded κs (Ok n) h = tt
bounded κs (Err e) h = search rules

pub returns : goal.returns
returns c =
    record {
      upper_bound = search (rules, sheet_within, small_numbers, bounded);
      out_after = search (rules, sheet_printed, small_numbers, bounded);
    }
