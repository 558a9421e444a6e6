use Rattle.sheet.proofs.Lookups.{found_low}
use Rattle.work_end_inquiry.proofs.Ends.{laid_fits, found_holder}
use Rattle.work_end_inquiry.proofs.resource_windows.Goals as goal

pub gather_windows-requires : goal.gather_windows-requires
gather_windows-requires c =
    let e = c.find_resource.ensures.place in
    let f = c.in-At.is in
    rw c.by_owner.ensures.rows (found_low _ _ _ e f, found_holder _ _ e _ f, laid_fits _ _ c.by_owner.ensures.known c.requires)
