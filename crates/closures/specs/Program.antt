-- What the program prints of a calendar, for a resource: the rows alone, as lines of a sheet's text, or a refusal. It lends 800 rows. Assumes nothing.
use Rattle.std.specs.Prelude.{ℕ, List, [], ◌∷◌, ℤ, pos}
use Rattle.loops.specs.Lists.{each}
use Rattle.printing.specs.NumberLines.{number_line}
use Rattle.printing.specs.Printed.{printed_alone}
use Rattle.freebusy.specs.Call.{Closure, closures, freebusy_answer}

-- "15,RESOURCE,1,START,END"
unfoldable pub closure_line : ℤ → Closure → List ℕ
closure_line resource c = number_line (pos 15 ∷ resource ∷ pos 1 ∷ pos c.start ∷ pos c.end ∷ [])

unfoldable pub printed_closures : List ℕ → ℤ → List ℕ
printed_closures text resource = printed_alone (freebusy_answer text resource 800) (each (closure_line resource) (closures text))
