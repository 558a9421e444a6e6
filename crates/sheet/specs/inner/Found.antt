-- What a lookup answers. Assumes nothing.
use Rattle.std.specs.Prelude.{ℕ}
use Rattle.std.specs.Prelude.{Option, None, Some}
use Rattle.sheet.specs.declared.Found.{Found}
use Rattle.sheet.specs.declared.Found.TheVariants.{At, Nothing}

-- the place that was found
abbrev pub found_of : Found → Option ℕ
found_of (At k) = Some k
found_of Nothing = None
