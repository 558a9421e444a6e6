-- The twelve examples, by computation. Assumes nothing.
use mathlib.Core.Path.{refl}
use lib.Ieee.{of_bits, of_int, mul, div}
use Rattle.loops.specs.Lists.{keep, any_of, all_of, each}
use Rattle.loops.specs.Range.{collect}
use Rattle.rows.specs.Cells.{cell}
use Rattle.rows.specs.Ranges.{between, is_none}
use Rattle.calendar.specs.Calendar.{contains, covers, hits, is_working_time, interval_fits, joint_working}
use Rattle.calendar.specs.WorkEnd.{end_in, reach, reaches, end_after, end_from, joint_work_end}
use Rattle.rounding.specs.Rounding.{half_up, rounded, divided_by}
use Rattle.part_share.specs.Share.{share_of}
use Rattle.overlap.specs.Bounds.{ceiling, ceiling_share}
use Rattle.model.specs.Activity.{activity_at, activities, find_activity}
use Rattle.model.specs.Schedule.{assignment_at, assignments_below, assignments}
use Rattle.loops.specs.Sums.{total, most}
use Rattle.load.specs.Load.{taken, load_of, peak_of, usage, bookings_on, load_at, peak}
use Rattle.shift.specs.Examples.{Examples}

pub examples : Examples
unfolding keep any_of all_of each collect cell between is_none contains covers hits is_working_time interval_fits joint_working end_in reach reaches end_after end_from joint_work_end half_up rounded divided_by share_of ceiling ceiling_share activity_at activities find_activity assignment_at assignments_below assignments usage bookings_on total most taken load_of peak_of load_at peak div mul of_int of_bits
examples = (refl, refl, refl, refl, refl, refl, refl, refl, refl, refl, refl, refl)
