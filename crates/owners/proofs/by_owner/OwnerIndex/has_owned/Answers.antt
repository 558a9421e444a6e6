use mathlib.Core.Path.{ap, ◌∙◌}
use Rattle.loops.specs.Lists.{is_some}
use Rattle.chains.proofs.PlaceLaws.{any_first}
use Rattle.owners.proofs.by_owner.OwnerIndex.has_owned.Goals as goal

pub returns : goal.returns
returns g c = c.is_some.ensures ∙ ap is_some c.find_owned.ensures.place ∙ any_first _ _
