use mathlib.Core.Path.{◌∙◌}
use Rattle.sheet.proofs.Stored.{stored_place_lem}
use Rattle.owners.proofs.Links.{own_resource}
use Rattle.owners.proofs.owner_links.LinkIndex.booked_resource.Goals as goal

pub returns : goal.returns
returns g c =
    let e = c.from-place.ensures ∙ c.links.ensures.res _ c.requires.0 in
    c.from.ensures ∙ (rw c.as_slice.ensures.rows at c.stored_place.ensures) ∙ stored_place_lem _ 11 _ (own_resource _ _ c.requires.1 e)
