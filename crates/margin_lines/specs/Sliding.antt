-- Two accepted sheets, the second being the first with one whole number of milliseconds added to every instant and nothing else changed, have the same
-- margins: by the definition, and as any two calls write them. Assumes nothing.
use Rattle.std.specs.Prelude.{Ok, ℕ, ◌*◌, ◌/◌, ◌≡◌, List, ℤ, length, take, None}
use Rattle.shift.specs.Shift.{Shifted}
use Rattle.acceptance.specs.Refusals.{sheet_refusal}
use Rattle.margin_lines.specs.Margins.{margins}
use Rattle.margin_lines.specs.Call.{margins_answer, margins_after}

pub record SameMargins (a b : List ℤ) : Type 0 where
  pub defined : margins a ≡ margins b
  -- two calls that are lent room for equally many lines answer the same
  pub answers : (room : ℕ) → margins_answer a room ≡ margins_answer b room
  -- any two calls that accept, whatever space each was lent, have written equally many lines, and the same
  pub calls : (before before' : List ℤ) (n m : ℕ) → margins_answer a (length before / 3) ≡ Ok n → margins_answer b (length before' / 3) ≡ Ok m
      → (n ≡ m) × (take (3 * n) (margins_after a before) ≡ take (3 * m) (margins_after b before'))

abbrev pub MarginsSlide : Type 0
MarginsSlide = (d : ℤ) (a b : List ℤ) → sheet_refusal a ≡ None → sheet_refusal b ≡ None → Shifted d a b → SameMargins a b
