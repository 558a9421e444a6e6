-- Demand 3: two accepted sheets, the second being the first with one whole number of milliseconds, zero or below too, added to every instant and nothing
-- else changed, have the same findings, line for line: those of the definition, and those that any two calls write. Assumes nothing.
use Rattle.std.specs.Prelude.{Ok, ℕ, ◌*◌, ◌/◌, ◌≡◌, List, ℤ, length, take, None}
use Rattle.findings.specs.Findings.{flat}
use Rattle.definition.specs.CheckSchedule.{findings}
use Rattle.shift.specs.Shift.{Shifted}
use Rattle.acceptance.specs.Refusals.{sheet_refusal}
use Rattle.feasibility.specs.Call.{check_answer, findings_after}

-- what two calls that accept have written: equally many findings, the same numbers in both buffers, and these are the definition's
pub record SameCalls (a b : List ℤ) (n m : ℕ) (after after' : List ℤ) : Type 0 where
  pub as_many : n ≡ m
  pub written : take (4 * n) after ≡ take (4 * m) after'
  pub counted : n ≡ length (findings a)
  pub defined : take (4 * n) after ≡ flat (findings a)
  pub defined' : take (4 * m) after' ≡ flat (findings b)

pub record Alike (a b : List ℤ) : Type 0 where
  -- the definition's findings are equal line for line
  pub defined : findings a ≡ findings b
  -- any two calls that accept, whatever space each was lent, have written the same
  pub calls : (before before' : List ℤ) (n m : ℕ)
      → check_answer a (length before / 4) ≡ Ok n
      → check_answer b (length before' / 4) ≡ Ok m
      → SameCalls a b n m (findings_after a before) (findings_after b before')
  -- two calls that are lent room for equally many findings answer the same
  pub answers : (room : ℕ) → check_answer a room ≡ check_answer b room

abbrev pub Demand3 : Type 0
Demand3 = (d : ℤ) (a b : List ℤ) → sheet_refusal a ≡ None → sheet_refusal b ≡ None → Shifted d a b → Alike a b
