use mathlib.Core.Path.{sym}
use Rattle.chains.proofs.PlaceLaws.{places_start}
use Rattle.chains.proofs.Walk.below.Goals as goal

pub returns : goal.returns
returns g c = sym (places_start _ _ c.first_place-at.ensures)
