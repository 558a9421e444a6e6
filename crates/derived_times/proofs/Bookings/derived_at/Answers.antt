use Rattle.loops.proofs.BranchLaws.{told}
use Rattle.sheet.proofs.Lookups.{found_some}
use Rattle.owners.proofs.Links.{books}
use Rattle.derived_times.proofs.Refusing.{derived_known}
use borrow.Author.Rules.{rules}
use borrow.Author.Tests.{not-false}
use Rattle.derived_times.proofs.Bookings.derived_at.Goals as goal

pub returns : goal.returns
returns c = derived_known _ _ _ c.duration_on.ensures (search (rules, told, not-false)) (search (rules, books, found_some, told, not-false))
