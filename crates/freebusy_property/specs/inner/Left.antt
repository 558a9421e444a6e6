-- The parts that an iterator has still to give, where so much of the text is left. Assumes nothing.
use Rattle.std.specs.Prelude.{ℕ, List, [], Option, None, Some}
use Rattle.std.specs.Borrow.{Bor}
use Rattle.freebusy_property.specs.Quotes.{unquoted_parts}

abbrev pub unquoted_left : ℕ → Option (Bor (List ℕ)) → List (List ℕ)
unquoted_left stop None = []
unquoted_left stop (Some rest) = unquoted_parts stop rest.now
