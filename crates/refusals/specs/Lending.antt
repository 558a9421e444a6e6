-- A call that is lent a buffer of numbers: what it answers, and what the buffer holds afterwards. Assumes nothing.
use Rattle.std.specs.Prelude.{ℕ, List, ◌++◌, ℤ, length, drop, Option, None, Some, Result, Ok, Err}
use Rattle.refusals.specs.declared.Refusal.{Refusal}

-- accepted with that count, or refused
abbrev pub answered : Option Refusal → ℕ → Result ℕ Refusal
answered None count = Ok count
answered (Some e) count = Err e

-- the buffer: those numbers, and what lay after them; a refusal changes none
abbrev pub lent_after : Option Refusal → List ℤ → List ℤ → List ℤ
lent_after None numbers before = numbers ++ drop (length numbers) before
lent_after (Some e) numbers before = before
