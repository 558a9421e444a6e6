use borrow.Author.Rules.{rules}
use Rattle.check6_calendars.proofs.Booking.{absent_told}
use Rattle.check6_calendars.proofs.check_booking.Goals as goal

pub returns-in_default : goal.returns-in_default
returns-in_default c =
    let p = rw c.deref.ensures at c.booked_resource.ensures in
    search (rules, p, absent_told)
