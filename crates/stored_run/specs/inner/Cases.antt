-- What a case gives its judge, and how it comes out. Assumes nothing.
use Rattle.std.specs.Prelude.{ℕ, Bool, true, false, cond, ◌&&◌, ◌⊎◌, List, [], ◌≡◌, ltb, length, ℤ, Result, Ok, Err}
use Rattle.loops.specs.Lists.{each, all_of}
use Rattle.text_fields.specs.Parts.{parts}
use Rattle.stored_lines.specs.inner.Line.{letter, body, is_formed}
use Rattle.stored_numbers.specs.inner.Numbers.{numbers_in, numbers_of, expected_of}
use Rattle.stored_bytes.specs.inner.Bytes.{bytes_of}
use Rattle.stored_run.specs.declared.Fault.{Fault}
use Rattle.stored_run.specs.declared.Fault.TheVariants.{IllFormed, Differs}
use Rattle.stored_run.specs.declared.Gathered.{Gathered}
use Rattle.stored_run.specs.declared.Reads.{Reads}

-- the bytes, the numbers and the numbers expected that lines give
abbrev pub bytes_given : List ℕ → List ℕ
bytes_given lines = each bytes_of (parts 10 lines)

abbrev pub numbers_given : List ℕ → List ℤ
numbers_given lines = each numbers_of (parts 10 lines)

abbrev pub expected_given : List ℕ → List ℤ
expected_given lines = each expected_of (parts 10 lines)

-- of these what a program reads: none where it reads none
abbrev pub bytes_read : Reads → List ℕ → List ℕ
bytes_read reads lines = cond reads.bytes (bytes_given lines) []

abbrev pub expected_read : Reads → List ℕ → List ℤ
expected_read reads lines = cond reads.expected (expected_given lines) []

-- a case has this letter and these numbers of the line that judges, and these numbers, bytes and numbers expected
pub record Has (l : ℕ) (js ns : List ℤ) (bs : List ℕ) (es : List ℤ) (c : Gathered) : Type 0 where
  pub letter : c.letter ≡ l
  pub judging : c.judging.now ≡ js
  pub numbers : c.numbers.now ≡ ns
  pub bytes : c.bytes.now ≡ bs
  pub expected : c.expected.now ≡ es

-- the letter and the numbers of the line that judges, and what the lines before it gather of what is read
abbrev pub Gathers : Reads → List ℕ → List ℕ → Gathered → Type 0
Gathers reads lines line = Has (letter line) (numbers_in (body line)) (numbers_given lines) (bytes_read reads lines) (expected_read reads lines)

-- there is room for these numbers, bytes and numbers expected: the programs have no heap
abbrev pub fit : List ℤ → List ℕ → List ℤ → Bool
fit ns bs es = ltb (length ns) 8210 && (ltb (length bs) 70010 && ltb (length es) 8210)

-- and for all that a case gathers
abbrev pub has_room : Reads → List ℕ → List ℕ → Bool
has_room reads lines line = ltb (length (numbers_in (body line))) 16 && fit (numbers_given lines) (bytes_read reads lines) (expected_read reads lines)

-- the judge was asked of a case with these numbers, bytes and numbers expected in place of its own, and said so
abbrev pub SaysWith : (Gathered → Bool → Type 0) → Gathered → List ℤ → List ℕ → List ℤ → Bool → Type 0
SaysWith Judges case ns bs es said = (c : Gathered) × Has case.letter case.judging.now ns bs es c × Judges c said

-- the judge was asked of what they gather, and said so
abbrev pub Says : (Gathered → Bool → Type 0) → Reads → List ℕ → List ℕ → Bool → Type 0
Says Judges reads lines line said = (c : Gathered) × Gathers reads lines line c × Judges c said

-- a case comes out so by its lines, those that gather and the one that judges: it passes where each line is formed and the judge says yes
abbrev pub ComesOut : (Gathered → Bool → Type 0) → Reads → List ℕ → List ℕ → List ℕ → Result Unit Fault → Type 0
ComesOut Judges reads lines gathering judging (Ok _) = (all_of is_formed (parts 10 lines) ≡ true) × Says Judges reads gathering judging true
ComesOut Judges reads lines gathering judging (Err IllFormed) = all_of is_formed (parts 10 lines) ≡ false
ComesOut Judges reads lines gathering judging (Err Differs) =
    (all_of is_formed (parts 10 lines) ≡ true) × ((has_room reads gathering judging ≡ false) ⊎ Says Judges reads gathering judging false)
