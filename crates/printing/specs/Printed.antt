-- What the programs print: "refused,NUMBER,PLACE"; or of findings "accepted,COUNT" and then a line "check,type,entity,severity" for each, of other lines
-- these alone. Each line is ended by a line feed (10); 44 is the comma. Assumes nothing.
use Rattle.std.specs.Prelude.{ℕ, List, [], ◌∷◌, ◌++◌, ℤ, Result, Ok, Err}
use Rattle.refusals.specs.Refusals.{number_of}
use Rattle.refusals.specs.declared.Refusal.{Refusal}
use Rattle.printing.specs.Decimal.{decimal}
use Rattle.printing.specs.NumberLines.{number_lines}

-- "refused," and "accepted,"
abbrev pub refused_word : List ℕ
refused_word = 114 ∷ 101 ∷ 102 ∷ 117 ∷ 115 ∷ 101 ∷ 100 ∷ 44 ∷ []

abbrev pub accepted_word : List ℕ
accepted_word = 97 ∷ 99 ∷ 99 ∷ 101 ∷ 112 ∷ 116 ∷ 101 ∷ 100 ∷ 44 ∷ []

unfoldable pub printed_refused : ℕ → ℕ → List ℕ
printed_refused number place = refused_word ++ decimal number ++ 44 ∷ decimal place ++ 10 ∷ []

unfoldable pub printed_accepted : ℕ → List ℤ → List ℕ
printed_accepted n found = accepted_word ++ decimal n ++ 10 ∷ number_lines 4 found n

-- an answer, with the findings as they are after the call
abbrev pub printed : Result ℕ Refusal → List ℤ → List ℕ
printed (Err e) found = printed_refused (number_of e.reason) e.place
printed (Ok n) found = printed_accepted n found

-- an answer, with the lines that are printed where it accepts
abbrev pub printed_alone : Result ℕ Refusal → List ℕ → List ℕ
printed_alone (Err e) lines = printed_refused (number_of e.reason) e.place
printed_alone (Ok n) lines = lines
