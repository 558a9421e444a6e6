-- Bookings that are gathered in lent room. Assumes nothing.
use Rattle.std.specs.Prelude.{List, map, ℤ, pos}
use Rattle.lent_room.specs.declared.lent_list.LentList.{LentList}
use Rattle.lent_room.specs.Listed.{listed}
use Rattle.load.specs.declared.booking.Booking.{Booking}
use Rattle.load.specs.Load as load

-- what a gathered booking stands for
abbrev pub meant : Booking → load.Booking ℤ
meant b = record { start = pos b.start; end = pos b.end; units = b.units }

abbrev pub lent : LentList Booking 800 → List (load.Booking ℤ)
lent b = map meant (listed b)
