-- What holds of the call `read_freebusy` as a whole. Assumes nothing.
use Rattle.std.specs.Prelude.{Ok, ℕ, ◌/◌, ◌<◌, ◌≤◌, true, false, List, ◌≡◌, ℤ, length}
use Rattle.letters.specs.Letters.{capitals}
use Rattle.freebusy_lines.specs.Folding.{Refolded}
use Rattle.freebusy.specs.Call.{freebusy_answer, freebusy_after}
use Rattle.sheet.specs.Refusals.{known_kind, out_of_range}

-- two texts have the same answer, place and all, and leave the same in the lent numbers, whatever the resource and however many are lent
abbrev pub Alike : List ℕ → List ℕ → Type 0
Alike s t =
    (resource : ℤ) (lent : List ℤ)
    → (freebusy_answer s resource (length lent / 10) ≡ freebusy_answer t resource (length lent / 10))
    × (freebusy_after s resource lent ≡ freebusy_after t resource lent)

-- another folding of the same lines, where neither text is too long
abbrev pub FoldingUnseen : Type 0
FoldingUnseen = (s t : List ℕ) → Refolded s t → length s ≤ 65536 → length t ≤ 65536 → Alike s t

-- letters in the other case
abbrev pub CaseUnseen : Type 0
CaseUnseen = (s t : List ℕ) → capitals s ≡ capitals t → Alike s t

-- each of the rows that are written to the lent numbers has a known kind, and its columns are in their classes: refusals 2 and 3 of a sheet let it pass
abbrev pub RowsPass : Type 0
RowsPass =
    (text : List ℕ) (resource : ℤ) (lent : List ℤ) (n : ℕ) → freebusy_answer text resource (length lent / 10) ≡ Ok n → (k : ℕ) → k < n
    → (known_kind (freebusy_after text resource lent) k ≡ true) × (out_of_range (freebusy_after text resource lent) k ≡ false)
