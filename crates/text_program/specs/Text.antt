-- What a program that reads a sheet as text prints of a text, by what it prints of rows. It lends 800 rows. One list of bytes for each text: two printouts
-- of one text are the same. Assumes nothing.
use Rattle.std.specs.Prelude.{Result, Ok, Err, ℕ, List, ℤ, ◌≡◌, ◌≤◌, ◌⊎◌, length, take}
use Rattle.refusals.specs.Refusals.{number_of}
use Rattle.refusals.specs.declared.Refusal.{Refusal}
use denote.Ref.{Bor, MutBor}
use Rattle.text_fields.specs.Parts.{parts}
use Rattle.text.specs.Text.{answer_of, rows_of}
use Rattle.printing.specs.Printed.{printed_refused}

module _ (of_rows : List ℤ → List ℕ) where
  -- of a text that was answered so: what is printed of its rows, or its refusal
  abbrev pub printed_of : Result ℕ Refusal → List ℕ → List ℕ
  printed_of (Ok n) text = of_rows (rows_of (parts 10 text))
  printed_of (Err e) text = printed_refused (number_of e.reason) e.place

  unfoldable pub printed_text : List ℕ → List ℕ
  printed_text text = printed_of (answer_of text 800) text

-- ---- a function that prints, by what its calls ask and give

-- it may be called with any input, and room of that size
abbrev pub TakesRoom : {X : Type 0} → (Bor (List X) → MutBor (List ℕ) → Type 0) → ℕ → Type 0
TakesRoom {X} pre size = (input : Bor (List X)) (room : MutBor (List ℕ)) → length room.now ≡ size → pre input room

-- it answers no more bytes than are there
abbrev pub KeepsWithin : {X : Type 0} → (Bor (List X) → MutBor (List ℕ) → ℕ → MutBor (List ℕ) → Type 0) → ℕ → Type 0
KeepsWithin {X} post size = (input : Bor (List X)) (room left : MutBor (List ℕ)) (n : ℕ) → length room.now ≡ size → post input room n left → n ≤ size

-- of rows, in such room: it leaves what is printed of them, and answers how many bytes that are
abbrev pub PrintsRows : (Bor (List ℤ) → MutBor (List ℕ) → ℕ → MutBor (List ℕ) → Type 0) → ℕ → (List ℤ → List ℕ) → Type 0
PrintsRows post size of_rows =
    (rows : Bor (List ℤ)) (room left : MutBor (List ℕ)) (n : ℕ) → length room.now ≡ size → post rows room n left → (n ≤ size) × (take n left.now ≡ of_rows rows.now)

-- of an input, in room that was so before: it leaves the room so
abbrev pub Leaves : {X : Type 0} → (Bor (List X) → MutBor (List ℕ) → ℕ → MutBor (List ℕ) → Type 0) → List X → List ℕ → List ℕ → Type 0
Leaves {X} post text before after =
    (input : Bor (List X)) × (room left : MutBor (List ℕ)) × (n : ℕ) × (input.now ≡ text) × (room.now ≡ before) × (left.now ≡ after) × post input room n left

-- ---- a run from input to output, by the room lent for what is printed

-- the room is as it was, where the input could not be read; else it is as the function leaves it that prints, of what was read: one byte more than a text may
-- have, at most. Which bytes were read, no contract can say.
abbrev pub RunLeaves : (Bor (List ℕ) → MutBor (List ℕ) → ℕ → MutBor (List ℕ) → Type 0) → List ℕ → List ℕ → Type 0
RunLeaves post before after = (after ≡ before) ⊎ ((text : List ℕ) × (length text ≤ 65537) × Leaves post text before after)
