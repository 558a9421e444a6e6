-- What can be said of input that was read: the bytes that are counted stand at the start of the buffer. Which they are, no contract can say. Assumes nothing.
use Rattle.std.specs.Prelude.{ℕ, List, Option, None, Some}
use Rattle.std.specs.Counts.{IsPrefixLen}

abbrev pub Held : Option ℕ → List ℕ → Type 0
Held None buffer = Unit {0}
Held (Some n) buffer = IsPrefixLen n buffer
