-- Margins at their ends, by computation: the sheets are accepted, and these are their lines. Assumes nothing.
use mathlib.Core.Path.{refl}
use Rattle.loops.specs.Lists.{keep, any_of, all_of, last, each}
use Rattle.loops.specs.Range.{collect}
use Rattle.loops.specs.Search.{first, first_place, any_below}
use Rattle.loops.specs.Sums.{total, most}
use Rattle.rows.specs.Cells.{cell, is}
use Rattle.rows.specs.Ranges.{between, is_none, in_range, in_class}
use Rattle.line_buffer.specs.Lines.{flat_lines}
use Rattle.sheet.specs.Places.{named, place_of}
use Rattle.sheet.specs.Refusals.{misshapen, known_kind, bad_cell, half_part, out_of_range, lacks, absent_at, unowned, repeats, repeated, column_fault, owner_fault, repeat_fault, refusal_of}
use Rattle.model.specs.Task.{task_at, tasks}
use Rattle.model.specs.Activity.{activity_at, activities, find_activity}
use Rattle.model.specs.Resource.{resource_at, resources, find_resource}
use Rattle.model.specs.Constraint.{constraint_at, constraints}
use Rattle.model.specs.Schedule.{assignment_at, assignments_below, assignments, span_at, time_only_below, time_only, latest, task_completion_time}
use Rattle.load.specs.Load.{taken, load_of, peak_of, usage, bookings_on, cap_override, base_of, cap_of, first_booked, booked_at, booked_resources, peak}
use Rattle.derived_times.specs.Times.{is_too_large, time_fault, time_refusal}
use Rattle.acceptance.specs.Refusals.{sheet_refusal, call_refusal}
use Rattle.margin_lines.specs.Margins.{task_margin, resource_margin, margin_lines, margins, flat_margins}
use Rattle.margin_lines.specs.Call.{margins_refusal, margins_after}
use Rattle.margin_lines.specs.Examples.{AtTheEnds}

pub at_the_ends : AtTheEnds
unfolding keep any_of all_of last each collect first first_place any_below total most cell is between is_none in_range in_class flat_lines named place_of misshapen known_kind bad_cell half_part out_of_range lacks absent_at unowned repeats repeated column_fault owner_fault repeat_fault refusal_of task_at tasks activity_at activities find_activity resource_at resources find_resource constraint_at constraints assignment_at assignments_below assignments span_at time_only_below time_only latest task_completion_time taken load_of peak_of usage bookings_on cap_override base_of cap_of first_booked booked_at booked_resources peak is_too_large time_fault time_refusal sheet_refusal call_refusal task_margin resource_margin margin_lines margins flat_margins margins_refusal margins_after
at_the_ends = record { zero = refl; earliest = refl; latest = refl }
