-- Demand 3, as any two calls write it. Assumes nothing.
use Rattle.std.specs.Prelude.{Ok}
use Prim.Native.Nat.{ℕ, ◌*◌, ◌/◌}
use mathlib.Core.Path.{◌≡◌, sym, ◌∙◌, ap}
use mathlib.Core.List.{List}
use lib.IntN.{ℤ}
use lib.ListN.{length, take}
use Rattle.findings.specs.Findings.{flat}
use Rattle.findings.proofs.SinkLaws.{flat_length}
use Rattle.refusals.proofs.AnswerLaws.{accepted_lines}
use Rattle.definition.specs.CheckSchedule.{findings}
use Rattle.feasibility.specs.Refusals.{refusal}
use Rattle.feasibility.specs.Call.{check_answer, findings_after}
use Rattle.feasibility.specs.Demand3.{SameCalls}

-- what stands in the buffer after a call that accepts
first_lines : (rows before : List ℤ) (n : ℕ) → check_answer rows (length before / 4) ≡ Ok n
    → (n ≡ length (findings rows)) × (take (4 * n) (findings_after rows before) ≡ flat (findings rows))
unfolding check_answer findings_after
first_lines rows before n e = accepted_lines 4 (refusal rows (length before / 4)) (flat (findings rows)) before (flat_length (findings rows)) e

-- any two calls that accept two sheets with the same findings
pub same_calls : (a b : List ℤ) → findings a ≡ findings b → (before before' : List ℤ) (n m : ℕ)
    → check_answer a (length before / 4) ≡ Ok n
    → check_answer b (length before' / 4) ≡ Ok m
    → SameCalls a b n m (findings_after a before) (findings_after b before')
same_calls a b same before before' n m p q =
    let x = first_lines a before n p in
    let y = first_lines b before' m q in
    record {
      as_many = x.0 ∙ ap length same ∙ sym y.0;
      written = x.1 ∙ ap flat same ∙ sym y.1;
      counted = x.0;
      defined = x.1;
      defined' = y.1;
    }
