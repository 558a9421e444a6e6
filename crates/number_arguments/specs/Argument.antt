-- An argument as a number: spelt as a field of a text, but never empty. Assumes nothing.
use Rattle.std.specs.Prelude.{ℕ, List, [], ◌∷◌, ℤ, Option, None}
use Rattle.text_fields.specs.Spelling.{number_of}

abbrev pub argument_number : List ℕ → Option ℤ
argument_number [] = None
argument_number (x ∷ s) = number_of (x ∷ s)
