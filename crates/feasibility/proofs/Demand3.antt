-- Demand 3 of the call. Assumes nothing.
use Prim.Native.Nat.{ℕ}
use mathlib.Core.Path.{◌≡◌, ap, ap₂}
use mathlib.Core.List.{List}
use Rattle.std.specs.Prelude.{None}
use lib.IntN.{ℤ}
use lib.ListN.{length}
use Rattle.definition.specs.CheckSchedule.{findings}
use Rattle.shift.specs.inner.InClass.{InClass}
use Rattle.shift.proofs.Shift.{same_findings}
use Rattle.acceptance.specs.Refusals.{sheet_refusal}
use Rattle.acceptance.proofs.Ending.{same_refusal}
use Rattle.acceptance.proofs.Order.{sheet_accepted}
use Rattle.feasibility.specs.Refusals.{refusal}
use Rattle.feasibility.specs.Call.{check_answer}
use Rattle.feasibility.specs.Demand3.{Demand3}
use Rattle.feasibility.proofs.Calls.{same_calls}
use Rattle.refusals.specs.Lending.{answered}

-- a sheet that is not refused has every number in the class of its column
in_class_lem : (rows : List ℤ) → sheet_refusal rows ≡ None → InClass rows
in_class_lem rows h = record { columns = (sheet_accepted rows h).columns }

-- the same answer to both, given the same room
same_answer : (a b : List ℤ) (room : ℕ) → sheet_refusal a ≡ None → sheet_refusal b ≡ None → findings a ≡ findings b → check_answer a room ≡ check_answer b room
unfolding check_answer refusal
same_answer a b room p q same = ap₂ answered (same_refusal a b room p q (ap length same)) (ap length same)

pub demand_3 : Demand3
demand_3 d a b okA okB h =
    let same : findings a ≡ findings b = same_findings d a b (in_class_lem a okA) (in_class_lem b okB) h in
    record {
      defined = same;
      calls = same_calls a b same;
      answers = λ room. same_answer a b room okA okB same;
    }
