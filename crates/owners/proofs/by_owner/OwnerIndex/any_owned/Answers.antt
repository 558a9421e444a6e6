use Rattle.std.proofs.Common.{rules}
use Rattle.owners.proofs.Owning.{passing_sought}
use Rattle.owners.proofs.by_owner.OwnerIndex.any_owned.Goals as goal

pub returns : goal.returns
returns g c = λ f h.
    let e = rw c.number.ensures at c.first-first.ensures in
    passing_sought _ _ _ _ c.owned-owned.ensures f (λ i b m. search (rules, h, m)) (rw c.as_slice-rows.ensures.rows at c.row_count-n.ensures) c.requires.row e c.find_from.ensures
