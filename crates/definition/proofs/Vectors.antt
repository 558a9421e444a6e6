-- Sheets that the reference judged, by computation: rows, and the findings that it gave.
use Prim.Native.Nat.{ℕ}
use mathlib.Core.Path.{◌≡◌, refl}
use mathlib.Core.List.{List, [], ◌∷◌, ◌++◌}
use lib.IntN.{ℤ, pos, negsuc}
use lib.Ieee.{of_bits, mul, div, of_int, eq}
use Rattle.findings.specs.declared.Violation.{Violation}
use Rattle.model.specs.Schedule.{assignment_at, assignments_below, assignments, assignments_for_activity_all, span_at, time_only_below, time_only, time_only_for_activity, latest, earliest, task_completion_time}
use Rattle.loops.specs.Lists.{keep, any_of, all_of, count_of, last, insert_by, sort_by, each}
use Rattle.loops.specs.Ordered.{upsert}
use Rattle.loops.specs.Range.{fold, collect}
use Rattle.loops.specs.Search.{first, first_place, any_below, count_below}
use Rattle.rows.specs.Cells.{cell, is}
use Rattle.rows.specs.Ranges.{between, is_none, in_range, in_class}
use Rattle.rows.specs.Table.{width}
use Rattle.calendar.specs.Amount.{count, joint_available_ms}
use Rattle.calendar.specs.Calendar.{contains, covers, hits, is_working_time, interval_fits, joint_working}
use Rattle.rounding.specs.Rounding.{half_up, rounded, divided_by}
use Rattle.part_share.specs.Share.{share_of}
use Rattle.overlap.specs.Bounds.{ceiling, ceiling_share}
use Rattle.resource_timing.specs.Durations.{at_speed, timed_duration}
use Rattle.model.specs.Activity.{activity_at, activities, find_activity, activities_of, overlap, split, requirement_at, requirements, named_for, is_candidate, usage_on, timing_at, timing, piece_of, duration_on, needed_ms}
use Rattle.model.specs.Constraint.{constraint_at, constraints}
use Rattle.model.specs.Resource.{resource_at, resources, find_resource, listed, windows, transport_to, transport_between}
use Rattle.model.specs.Task.{task_at, tasks, find_task}
use Rattle.definition.specs.ActivitySpan.{activity_span}
use Rattle.definition.specs.CheckAssignments.{units, uses, check_known, check_assignment, check_assignment_at, check_assignments}
use Rattle.definition.specs.CheckCalendars.{piece_calendars, check_resumable, check_plain, check_booking, check_calendars}
use Rattle.loops.specs.Sums.{total, most}
use Rattle.load.specs.Load.{taken, load_of, peak_of, usage, bookings_on, cap_override, base_of, cap_of, first_booked, booked_at, booked_resources, load_at, peak}
use Rattle.definition.specs.CheckCapacity.{check_resource, check_capacity}
use Rattle.definition.specs.CheckConstraints.{first_on, check_overlaps, differing, check_constraint, check_constraint_at, check_constraints}
use Rattle.definition.specs.CheckDeadlines.{check_deadline, check_deadlines}
use Rattle.definition.specs.CheckParts.{parts_of, work_of, two_works, check_parts_of, check_split, check_activity_parts, check_parts}
use Rattle.definition.specs.CheckPrecedence.{end_to_start, runs_on_all, by_part, pieces_of, check_pair, check_pairs, check_task, check_precedence}
use Rattle.definition.specs.CheckRequirements.{claim, candidate_id, lacking, claims, unaccompanied, not_simultaneous, check_piece_requirements, bookings_by_piece, check_activity_requirements, check_requirements}
use Rattle.definition.specs.CheckSchedule.{check_schedule, findings}
use Rattle.definition.specs.CheckTimeOnly.{known, seen, check_first, check_span, check_span_at, check_unplaced, check_time_only}
use Rattle.definition.specs.Pieces.{held_among, not_held, assigned_with, is_held, runs_on}

abbrev none' : ℤ
none' = negsuc 9223372036854775807

abbrev row : ℤ → ℤ → ℤ → ℤ → ℤ → ℤ → ℤ → ℤ → ℤ → ℤ → List ℤ
row a b c d e f g h i j = a ∷ b ∷ c ∷ d ∷ e ∷ f ∷ g ∷ h ∷ i ∷ j ∷ []

-- a finding's four numbers, as the reference gave them
abbrev violation : ℕ → ℕ → ℕ → ℕ → Violation
violation check kind entity severity = record { check = check; kind = kind; entity = entity; severity = severity }

abbrev sheet0 : List ℤ
sheet0 =
    row (pos 1) (pos 2) (pos 50) (pos 3) (pos 0) (pos 0) (pos 0) (pos 0) (pos 0) (pos 0)
    ++ row (pos 16) (pos 1) (pos 0) (pos 21) (pos 41) (pos 0) (pos 0) (pos 0) (pos 0) (pos 0)
    ++ row (pos 15) (pos 5) (pos 0) (pos 8) (pos 6) (pos 0) (pos 0) (pos 0) (pos 0) (pos 0)
    ++ row (pos 15) (pos 0) (pos 1) (pos 33) (pos 31) (pos 0) (pos 0) (pos 0) (pos 0) (pos 0)
    ++ row (pos 1) (pos 1) none' none' (pos 0) (pos 0) (pos 0) (pos 0) (pos 0) (pos 0)
    ++ row (pos 15) (pos 5) (pos 1) (pos 38) (pos 39) (pos 0) (pos 0) (pos 0) (pos 0) (pos 0)
    ++ row (pos 11) (pos 5) (pos 7) (pos 1) (pos 0) (pos 0) (pos 0) (pos 0) (pos 0) (pos 0)
    ++ row (pos 2) (pos 0) (pos 1) (pos 0) (pos 2) (pos 2) (pos 1) (pos 1) none' (pos 0)
    ++ row (pos 5) (pos 0) (pos 7) (pos 1) (pos 1) (pos 0) (pos 0) (pos 0) (pos 0) (pos 0)
    ++ row (pos 11) (pos 1) (pos 7) (pos 1) (pos 0) (pos 0) (pos 0) (pos 0) (pos 0) (pos 0)
    ++ row (pos 16) (pos 2) (pos 1) (pos 29) (pos 49) (pos 0) (pos 0) (pos 0) (pos 0) (pos 0)
    ++ row (pos 5) (pos 1) (pos 7) (pos 1) (pos 1) (pos 0) (pos 0) (pos 0) (pos 0) (pos 0)
    ++ row (pos 5) (pos 2) (pos 7) (pos 1) (pos 1) (pos 0) (pos 0) (pos 0) (pos 0) (pos 0)
    ++ row (pos 11) (pos 0) (pos 7) (pos 1) (pos 0) (pos 0) (pos 0) (pos 0) (pos 0) (pos 0)
    ++ row (pos 2) (pos 1) (pos 1) (pos 1) (pos 2) (pos 11) (pos 0) (pos 1) none' (pos 0)
    ++ row (pos 23) (pos 2) (pos 2) (pos 0) (pos 8) (pos 28) (pos 0) none' none' (pos 0)
    ++ row (pos 23) (pos 1) (pos 2) (pos 0) (pos 9) (pos 14) (pos 0) none' none' (pos 0)
    ++ row (pos 16) (pos 2) (pos 1) (pos 22) (pos 52) (pos 0) (pos 0) (pos 0) (pos 0) (pos 0)
    ++ row (pos 15) (pos 5) (pos 0) (pos 15) (pos 25) (pos 0) (pos 0) (pos 0) (pos 0) (pos 0)
    ++ row (pos 15) (pos 0) (pos 0) (pos 13) (pos 18) (pos 0) (pos 0) (pos 0) (pos 0) (pos 0)
    ++ row (pos 2) (pos 2) (pos 1) (pos 2) (pos 0) (pos 3) (pos 0) (pos 1) none' (pos 0)
    ++ row (pos 15) (pos 0) (pos 0) (pos 32) (pos 62) (pos 0) (pos 0) (pos 0) (pos 0) (pos 0)
    ++ row (pos 16) (pos 0) (pos 0) (pos 23) (pos 22) (pos 0) (pos 0) (pos 0) (pos 0) (pos 0)
    ++ row (pos 23) (pos 0) (pos 2) (pos 1) (pos 3) (pos 23) (pos 0) none' none' (pos 0)
    ++ row (pos 15) (pos 0) (pos 0) (pos 25) (pos 55) (pos 0) (pos 0) (pos 0) (pos 0) (pos 0)
    ++ row (pos 15) (pos 5) (pos 0) (pos 20) (pos 21) (pos 0) (pos 0) (pos 0) (pos 0) (pos 0)
    ++ row (pos 15) (pos 0) (pos 0) (pos 16) (pos 46) (pos 0) (pos 0) (pos 0) (pos 0) (pos 0)
    ++ row (pos 15) (pos 5) (pos 0) (pos 3) (pos 33) (pos 0) (pos 0) (pos 0) (pos 0) (pos 0)
    ++ row (pos 15) (pos 1) (pos 0) (pos 10) (pos 40) (pos 0) (pos 0) (pos 0) (pos 0) (pos 0)

pub findings0 : findings sheet0 ≡ violation 1 9 2 95 ∷ violation 1 9 1 95 ∷ violation 1 9 0 95 ∷ violation 5 2 0 90 ∷ violation 6 4 0 85 ∷ violation 6 4 0 85 ∷ violation 6 4 1 85 ∷ violation 7 3 1 95 ∷ violation 7 3 2 95 ∷ []
unfolding keep any_of all_of count_of last insert_by sort_by each upsert fold collect first first_place any_below count_below cell is between is_none in_range in_class width count joint_available_ms contains covers hits is_working_time interval_fits joint_working half_up rounded divided_by share_of ceiling ceiling_share at_speed timed_duration activity_at activities find_activity activities_of overlap split requirement_at requirements named_for is_candidate usage_on timing_at timing piece_of duration_on needed_ms constraint_at constraints resource_at resources find_resource listed windows transport_to transport_between assignment_at assignments_below assignments assignments_for_activity_all span_at time_only_below time_only time_only_for_activity latest earliest task_completion_time task_at tasks find_task activity_span units uses check_known check_assignment check_assignment_at check_assignments piece_calendars check_resumable check_plain check_booking check_calendars usage cap_override base_of cap_of bookings_on total most taken load_of peak_of load_at peak first_booked booked_at booked_resources check_resource check_capacity first_on check_overlaps differing check_constraint check_constraint_at check_constraints check_deadline check_deadlines parts_of work_of two_works check_parts_of check_split check_activity_parts check_parts end_to_start runs_on_all by_part pieces_of check_pair check_pairs check_task check_precedence claim candidate_id lacking claims unaccompanied not_simultaneous check_piece_requirements bookings_by_piece check_activity_requirements check_requirements check_schedule findings known seen check_first check_span check_span_at check_unplaced check_time_only held_among not_held assigned_with is_held runs_on eq of_bits mul of_int div
findings0 = refl

abbrev sheet1 : List ℤ
sheet1 =
    row (pos 2) (pos 3) (pos 1) (pos 0) (pos 0) (pos 1) (pos 0) (pos 0) none' (pos 0)
    ++ row (pos 2) (pos 0) (pos 0) (pos 2) (pos 0) (pos 0) (pos 0) (pos 0) none' (pos 0)
    ++ row (pos 5) (pos 0) (pos 0) (pos 1) (pos 1) (pos 0) (pos 0) (pos 0) (pos 0) (pos 0)
    ++ row (pos 5) (pos 1) (pos 0) (pos 1) (pos 2) (pos 0) (pos 0) (pos 0) (pos 0) (pos 0)
    ++ row (pos 11) (pos 1) (pos 0) (pos 1) (pos 0) (pos 0) (pos 0) (pos 0) (pos 0) (pos 0)
    ++ row (pos 23) (pos 2) (pos 0) (pos 0) (pos 10) (pos 15) (pos 0) none' none' (pos 0)
    ++ row (pos 11) (pos 0) (pos 0) (pos 0) (pos 0) (pos 0) (pos 0) (pos 0) (pos 0) (pos 0)
    ++ row (pos 5) (pos 2) (pos 0) (pos 1) (pos 2) (pos 0) (pos 0) (pos 0) (pos 0) (pos 0)
    ++ row (pos 23) (pos 5) (pos 2) (pos 2) (pos 10) (pos 20) (pos 0) none' none' (pos 0)
    ++ row (pos 1) (pos 1) (pos 15) none' (pos 0) (pos 0) (pos 0) (pos 0) (pos 0) (pos 0)
    ++ row (pos 11) (pos 2) (pos 0) (pos 3) (pos 0) (pos 0) (pos 0) (pos 0) (pos 0) (pos 0)
    ++ row (pos 14) (pos 1) (pos 0) (pos 3) (pos 0) (pos 0) (pos 0) (pos 0) (pos 0) (pos 0)
    ++ row (pos 23) (pos 2) (pos 0) (pos 0) (pos 7) (pos 7) (pos 0) none' none' (pos 0)
    ++ row (pos 23) (pos 3) (pos 1) (pos 2) (pos 10) (pos 15) (pos 0) none' none' (pos 0)
    ++ row (pos 2) (pos 1) (pos 0) (pos 0) (pos 0) (pos 0) (pos 0) (pos 0) none' (pos 0)
    ++ row (pos 5) (pos 3) (pos 0) (pos 1) (pos 1) (pos 0) (pos 0) (pos 0) (pos 0) (pos 0)
    ++ row (pos 1) (pos 0) (pos 20) none' (pos 0) (pos 0) (pos 0) (pos 0) (pos 0) (pos 0)
    ++ row (pos 23) (pos 4) (pos 0) (pos 3) (pos 0) (pos 1) (pos 0) none' none' (pos 0)
    ++ row (pos 23) (pos 0) (pos 2) (pos 1) (pos 10) (pos 15) (pos 0) none' none' (pos 0)
    ++ row (pos 14) (pos 0) (pos 2) (pos 1) (pos 0) (pos 0) (pos 0) (pos 0) (pos 0) (pos 0)
    ++ row (pos 8) (pos 1) (pos 5) (pos 0) (pos 0) (pos 0) (pos 0) (pos 0) (pos 0) (pos 0)
    ++ row (pos 2) (pos 4) (pos 0) (pos 1) (pos 0) (pos 0) (pos 0) (pos 0) none' (pos 0)
    ++ row (pos 5) (pos 4) (pos 0) (pos 1) (pos 1) (pos 0) (pos 0) (pos 0) (pos 0) (pos 0)
    ++ row (pos 23) (pos 0) (pos 0) (pos 3) (pos 5) (pos 10) (pos 0) none' none' (pos 0)
    ++ row (pos 17) (pos 4) (pos 4) (pos 0) (pos 0) (pos 0) (pos 0) (pos 0) (pos 0) (pos 0)
    ++ row (pos 23) (pos 3) (pos 2) (pos 0) (pos 5) (pos 6) (pos 0) none' none' (pos 0)
    ++ row (pos 2) (pos 2) (pos 0) (pos 2) (pos 0) (pos 0) (pos 0) (pos 0) none' (pos 0)
    ++ row (pos 23) (pos 4) (pos 1) (pos 1) (pos 10) (pos 15) (pos 0) none' none' (pos 0)

pub findings1 : findings sheet1 ≡ violation 1 9 2 95 ∷ violation 1 9 0 95 ∷ violation 1 9 3 95 ∷ violation 1 9 4 95 ∷ violation 4 6 3 95 ∷ violation 4 6 0 95 ∷ violation 4 6 1 95 ∷ violation 4 6 4 95 ∷ violation 4 6 2 95 ∷ violation 5 2 0 90 ∷ violation 5 2 1 90 ∷ violation 7 3 0 95 ∷ violation 7 3 2 95 ∷ violation 7 3 4 95 ∷ []
unfolding keep any_of all_of count_of last insert_by sort_by each upsert fold collect first first_place any_below count_below cell is between is_none in_range in_class width count joint_available_ms contains covers hits is_working_time interval_fits joint_working half_up rounded divided_by share_of ceiling ceiling_share at_speed timed_duration activity_at activities find_activity activities_of overlap split requirement_at requirements named_for is_candidate usage_on timing_at timing piece_of duration_on needed_ms constraint_at constraints resource_at resources find_resource listed windows transport_to transport_between assignment_at assignments_below assignments assignments_for_activity_all span_at time_only_below time_only time_only_for_activity latest earliest task_completion_time task_at tasks find_task activity_span units uses check_known check_assignment check_assignment_at check_assignments piece_calendars check_resumable check_plain check_booking check_calendars usage cap_override base_of cap_of bookings_on total most taken load_of peak_of load_at peak first_booked booked_at booked_resources check_resource check_capacity first_on check_overlaps differing check_constraint check_constraint_at check_constraints check_deadline check_deadlines parts_of work_of two_works check_parts_of check_split check_activity_parts check_parts end_to_start runs_on_all by_part pieces_of check_pair check_pairs check_task check_precedence claim candidate_id lacking claims unaccompanied not_simultaneous check_piece_requirements bookings_by_piece check_activity_requirements check_requirements check_schedule findings known seen check_first check_span check_span_at check_unplaced check_time_only held_among not_held assigned_with is_held runs_on eq of_bits mul of_int div
findings1 = refl

abbrev sheet2 : List ℤ
sheet2 =
    row (pos 11) (pos 2) (pos 0) (pos 2) (pos 0) (pos 0) (pos 0) (pos 0) (pos 0) (pos 0)
    ++ row (pos 10) (pos 0) (pos 2) (pos 1) (pos 1) (pos 0) (pos 0) (pos 0) (pos 0) (pos 0)
    ++ row (pos 23) (pos 0) (pos 0) (pos 3) (pos 9) (pos 12) (pos 1) none' none' (pos 0)
    ++ row (pos 11) (pos 1) (pos 0) (pos 2) (pos 0) (pos 0) (pos 0) (pos 0) (pos 0) (pos 0)
    ++ row (pos 13) (pos 2) (pos 2) (pos 0) (pos 0) (pos 0) (pos 0) (pos 0) (pos 0) (pos 0)
    ++ row (pos 11) (pos 0) (pos 1) (pos 1) (pos 0) (pos 0) (pos 0) (pos 0) (pos 0) (pos 0)
    ++ row (pos 23) (pos 0) (pos 0) (pos 2) (pos 9) (pos 21) (pos 1) (pos 0) (pos 6) (pos 0)
    ++ row (pos 5) (pos 0) (pos 1) (pos 0) (pos 1) (pos 0) (pos 0) (pos 0) (pos 0) (pos 0)
    ++ row (pos 23) (pos 0) (pos 0) (pos 4) (pos 9) (pos 12) (pos 1) (pos 0) (pos 3) (pos 0)
    ++ row (pos 11) (pos 3) (pos 0) (pos 2) (pos 0) (pos 0) (pos 0) (pos 0) (pos 0) (pos 0)
    ++ row (pos 1) (pos 0) none' none' (pos 0) (pos 0) (pos 0) (pos 0) (pos 0) (pos 0)
    ++ row (pos 2) (pos 0) (pos 0) (pos 1) (pos 1) (pos 6) (pos 0) (pos 0) none' (pos 0)
    ++ row (pos 5) (pos 0) (pos 1) (negsuc 0) (pos 1) (pos 0) (pos 0) (pos 0) (pos 0) (pos 0)
    ++ row (pos 13) (pos 2) (pos 2) (pos 0) (pos 0) (pos 0) (pos 0) (pos 0) (pos 0) (pos 0)

pub findings2 : findings sheet2 ≡ violation 1 10 0 90 ∷ violation 1 9 0 95 ∷ violation 1 9 0 95 ∷ violation 4 6 0 95 ∷ []
unfolding keep any_of all_of count_of last insert_by sort_by each upsert fold collect first first_place any_below count_below cell is between is_none in_range in_class width count joint_available_ms contains covers hits is_working_time interval_fits joint_working half_up rounded divided_by share_of ceiling ceiling_share at_speed timed_duration activity_at activities find_activity activities_of overlap split requirement_at requirements named_for is_candidate usage_on timing_at timing piece_of duration_on needed_ms constraint_at constraints resource_at resources find_resource listed windows transport_to transport_between assignment_at assignments_below assignments assignments_for_activity_all span_at time_only_below time_only time_only_for_activity latest earliest task_completion_time task_at tasks find_task activity_span units uses check_known check_assignment check_assignment_at check_assignments piece_calendars check_resumable check_plain check_booking check_calendars usage cap_override base_of cap_of bookings_on total most taken load_of peak_of load_at peak first_booked booked_at booked_resources check_resource check_capacity first_on check_overlaps differing check_constraint check_constraint_at check_constraints check_deadline check_deadlines parts_of work_of two_works check_parts_of check_split check_activity_parts check_parts end_to_start runs_on_all by_part pieces_of check_pair check_pairs check_task check_precedence claim candidate_id lacking claims unaccompanied not_simultaneous check_piece_requirements bookings_by_piece check_activity_requirements check_requirements check_schedule findings known seen check_first check_span check_span_at check_unplaced check_time_only held_among not_held assigned_with is_held runs_on eq of_bits mul of_int div
findings2 = refl

abbrev sheet3 : List ℤ
sheet3 =
    row (pos 1) (pos 2) (pos 15) none' (pos 0) (pos 0) (pos 0) (pos 0) (pos 0) (pos 0)
    ++ row (pos 11) (pos 1) (pos 0) (pos 2) (pos 0) (pos 0) (pos 0) (pos 0) (pos 0) (pos 0)
    ++ row (pos 11) (pos 3) (pos 0) (pos 1) (pos 0) (pos 0) (pos 0) (pos 0) (pos 0) (pos 0)
    ++ row (pos 12) (pos 3) (pos 1) (pos 0) (pos 0) (pos 0) (pos 0) (pos 0) (pos 0) (pos 0)
    ++ row (pos 12) (pos 3) (pos 2) (pos 0) (pos 0) (pos 0) (pos 0) (pos 0) (pos 0) (pos 0)
    ++ row (pos 12) (pos 3) (pos 3) (pos 0) (pos 0) (pos 0) (pos 0) (pos 0) (pos 0) (pos 0)
    ++ row (pos 14) (pos 3) (pos 1) (pos 4) (pos 0) (pos 0) (pos 0) (pos 0) (pos 0) (pos 0)
    ++ row (pos 20) (pos 2) (pos 0) (pos 0) (pos 0) (pos 0) (pos 0) (pos 0) (pos 0) (pos 0)
    ++ row (pos 22) (pos 0) (pos 3) (pos 0) (pos 0) (pos 0) (pos 0) (pos 0) (pos 0) (pos 0)
    ++ row (pos 23) (pos 0) (pos 4) (pos 1) (pos 10) (pos 10) (pos 1) none' none' (pos 0)
    ++ row (pos 23) (pos 5) (pos 5) (pos 1) (pos 20) (pos 23) (pos 0) none' none' (pos 0)

pub findings3 : findings sheet3 ≡ []
unfolding keep any_of all_of count_of last insert_by sort_by each upsert fold collect first first_place any_below count_below cell is between is_none in_range in_class width count joint_available_ms contains covers hits is_working_time interval_fits joint_working half_up rounded divided_by share_of ceiling ceiling_share at_speed timed_duration activity_at activities find_activity activities_of overlap split requirement_at requirements named_for is_candidate usage_on timing_at timing piece_of duration_on needed_ms constraint_at constraints resource_at resources find_resource listed windows transport_to transport_between assignment_at assignments_below assignments assignments_for_activity_all span_at time_only_below time_only time_only_for_activity latest earliest task_completion_time task_at tasks find_task activity_span units uses check_known check_assignment check_assignment_at check_assignments piece_calendars check_resumable check_plain check_booking check_calendars usage cap_override base_of cap_of bookings_on total most taken load_of peak_of load_at peak first_booked booked_at booked_resources check_resource check_capacity first_on check_overlaps differing check_constraint check_constraint_at check_constraints check_deadline check_deadlines parts_of work_of two_works check_parts_of check_split check_activity_parts check_parts end_to_start runs_on_all by_part pieces_of check_pair check_pairs check_task check_precedence claim candidate_id lacking claims unaccompanied not_simultaneous check_piece_requirements bookings_by_piece check_activity_requirements check_requirements check_schedule findings known seen check_first check_span check_span_at check_unplaced check_time_only held_among not_held assigned_with is_held runs_on eq of_bits mul of_int div
findings3 = refl

abbrev sheet4 : List ℤ
sheet4 =
    row (pos 12) (pos 2) (pos 3) (pos 0) (pos 0) (pos 0) (pos 0) (pos 0) (pos 0) (pos 0)
    ++ row (pos 12) (pos 0) (pos 2) (pos 0) (pos 0) (pos 0) (pos 0) (pos 0) (pos 0) (pos 0)
    ++ row (pos 20) (pos 2) (pos 0) (pos 0) (pos 0) (pos 0) (pos 0) (pos 0) (pos 0) (pos 0)
    ++ row (pos 12) (pos 2) (pos 3) (pos 0) (pos 0) (pos 0) (pos 0) (pos 0) (pos 0) (pos 0)
    ++ row (pos 12) (pos 3) (pos 3) (pos 0) (pos 0) (pos 0) (pos 0) (pos 0) (pos 0) (pos 0)
    ++ row (pos 11) (pos 3) (pos 0) (pos 1) (pos 0) (pos 0) (pos 0) (pos 0) (pos 0) (pos 0)
    ++ row (pos 11) (pos 0) (pos 0) (pos 1) (pos 0) (pos 0) (pos 0) (pos 0) (pos 0) (pos 0)
    ++ row (pos 17) (pos 1) (pos 4) (negsuc 2) (pos 0) (pos 0) (pos 0) (pos 0) (pos 0) (pos 0)
    ++ row (pos 12) (pos 3) (pos 2) (pos 0) (pos 0) (pos 0) (pos 0) (pos 0) (pos 0) (pos 0)
    ++ row (pos 14) (pos 2) (pos 2) (pos 6) (pos 0) (pos 0) (pos 0) (pos 0) (pos 0) (pos 0)
    ++ row (pos 12) (pos 0) (pos 1) (pos 0) (pos 0) (pos 0) (pos 0) (pos 0) (pos 0) (pos 0)
    ++ row (pos 14) (pos 2) (pos 3) (pos 1) (pos 0) (pos 0) (pos 0) (pos 0) (pos 0) (pos 0)
    ++ row (pos 11) (pos 2) (pos 0) (pos 1) (pos 0) (pos 0) (pos 0) (pos 0) (pos 0) (pos 0)

pub findings4 : findings sheet4 ≡ []
unfolding keep any_of all_of count_of last insert_by sort_by each upsert fold collect first first_place any_below count_below cell is between is_none in_range in_class width count joint_available_ms contains covers hits is_working_time interval_fits joint_working half_up rounded divided_by share_of ceiling ceiling_share at_speed timed_duration activity_at activities find_activity activities_of overlap split requirement_at requirements named_for is_candidate usage_on timing_at timing piece_of duration_on needed_ms constraint_at constraints resource_at resources find_resource listed windows transport_to transport_between assignment_at assignments_below assignments assignments_for_activity_all span_at time_only_below time_only time_only_for_activity latest earliest task_completion_time task_at tasks find_task activity_span units uses check_known check_assignment check_assignment_at check_assignments piece_calendars check_resumable check_plain check_booking check_calendars usage cap_override base_of cap_of bookings_on total most taken load_of peak_of load_at peak first_booked booked_at booked_resources check_resource check_capacity first_on check_overlaps differing check_constraint check_constraint_at check_constraints check_deadline check_deadlines parts_of work_of two_works check_parts_of check_split check_activity_parts check_parts end_to_start runs_on_all by_part pieces_of check_pair check_pairs check_task check_precedence claim candidate_id lacking claims unaccompanied not_simultaneous check_piece_requirements bookings_by_piece check_activity_requirements check_requirements check_schedule findings known seen check_first check_span check_span_at check_unplaced check_time_only held_among not_held assigned_with is_held runs_on eq of_bits mul of_int div
findings4 = refl

abbrev sheet5 : List ℤ
sheet5 =
    row (pos 12) (pos 2) (pos 1) (pos 0) (pos 0) (pos 0) (pos 0) (pos 0) (pos 0) (pos 0)
    ++ row (pos 1) (pos 1) none' none' (pos 0) (pos 0) (pos 0) (pos 0) (pos 0) (pos 0)
    ++ row (pos 11) (pos 4) (pos 0) (pos 1) (pos 0) (pos 0) (pos 0) (pos 0) (pos 0) (pos 0)
    ++ row (pos 15) (pos 0) (pos 0) (pos 17) (pos 18) (pos 0) (pos 0) (pos 0) (pos 0) (pos 0)
    ++ row (pos 15) (pos 0) (pos 1) (pos 33) (pos 34) (pos 0) (pos 0) (pos 0) (pos 0) (pos 0)
    ++ row (pos 14) (pos 2) (pos 0) (pos 8) (pos 0) (pos 0) (pos 0) (pos 0) (pos 0) (pos 0)
    ++ row (pos 1) (pos 0) none' (pos 7) (pos 0) (pos 0) (pos 0) (pos 0) (pos 0) (pos 0)
    ++ row (pos 12) (pos 4) (pos 3) (pos 0) (pos 0) (pos 0) (pos 0) (pos 0) (pos 0) (pos 0)
    ++ row (pos 12) (pos 0) (pos 2) (pos 0) (pos 0) (pos 0) (pos 0) (pos 0) (pos 0) (pos 0)
    ++ row (pos 12) (pos 0) (pos 0) (pos 0) (pos 0) (pos 0) (pos 0) (pos 0) (pos 0) (pos 0)
    ++ row (pos 14) (pos 0) (pos 5) (pos 0) (pos 0) (pos 0) (pos 0) (pos 0) (pos 0) (pos 0)
    ++ row (pos 12) (pos 4) (pos 0) (pos 0) (pos 0) (pos 0) (pos 0) (pos 0) (pos 0) (pos 0)
    ++ row (pos 11) (pos 0) (pos 0) (negsuc 0) (pos 0) (pos 0) (pos 0) (pos 0) (pos 0) (pos 0)
    ++ row (pos 14) (pos 0) (pos 4) (pos 1) (pos 0) (pos 0) (pos 0) (pos 0) (pos 0) (pos 0)
    ++ row (pos 12) (pos 0) (pos 0) (pos 0) (pos 0) (pos 0) (pos 0) (pos 0) (pos 0) (pos 0)
    ++ row (pos 11) (pos 2) (pos 0) (pos 1) (pos 0) (pos 0) (pos 0) (pos 0) (pos 0) (pos 0)
    ++ row (pos 15) (pos 0) (pos 1) (pos 25) (pos 27) (pos 0) (pos 0) (pos 0) (pos 0) (pos 0)

pub findings5 : findings sheet5 ≡ []
unfolding keep any_of all_of count_of last insert_by sort_by each upsert fold collect first first_place any_below count_below cell is between is_none in_range in_class width count joint_available_ms contains covers hits is_working_time interval_fits joint_working half_up rounded divided_by share_of ceiling ceiling_share at_speed timed_duration activity_at activities find_activity activities_of overlap split requirement_at requirements named_for is_candidate usage_on timing_at timing piece_of duration_on needed_ms constraint_at constraints resource_at resources find_resource listed windows transport_to transport_between assignment_at assignments_below assignments assignments_for_activity_all span_at time_only_below time_only time_only_for_activity latest earliest task_completion_time task_at tasks find_task activity_span units uses check_known check_assignment check_assignment_at check_assignments piece_calendars check_resumable check_plain check_booking check_calendars usage cap_override base_of cap_of bookings_on total most taken load_of peak_of load_at peak first_booked booked_at booked_resources check_resource check_capacity first_on check_overlaps differing check_constraint check_constraint_at check_constraints check_deadline check_deadlines parts_of work_of two_works check_parts_of check_split check_activity_parts check_parts end_to_start runs_on_all by_part pieces_of check_pair check_pairs check_task check_precedence claim candidate_id lacking claims unaccompanied not_simultaneous check_piece_requirements bookings_by_piece check_activity_requirements check_requirements check_schedule findings known seen check_first check_span check_span_at check_unplaced check_time_only held_among not_held assigned_with is_held runs_on eq of_bits mul of_int div
findings5 = refl

abbrev sheet6 : List ℤ
sheet6 =
    row (pos 1) (pos 1) none' none' (pos 0) (pos 0) (pos 0) (pos 0) (pos 0) (pos 0)
    ++ row (pos 1) (pos 2) (pos 50) (pos 3) (pos 0) (pos 0) (pos 0) (pos 0) (pos 0) (pos 0)
    ++ row (pos 2) (pos 0) (pos 2) (pos 0) (pos 0) (pos 2) (pos 0) (pos 1) none' (pos 0)
    ++ row (pos 2) (pos 1) (pos 1) (pos 1) (pos 2) (pos 1) (pos 1) (pos 1) none' (pos 0)
    ++ row (pos 11) (pos 2) (pos 7) (pos 1) (pos 0) (pos 0) (pos 0) (pos 0) (pos 0) (pos 0)
    ++ row (pos 15) (pos 2) (pos 1) (pos 23) (pos 28) (pos 0) (pos 0) (pos 0) (pos 0) (pos 0)
    ++ row (pos 15) (pos 2) (pos 0) (pos 30) (pos 40) (pos 0) (pos 0) (pos 0) (pos 0) (pos 0)
    ++ row (pos 16) (pos 0) (pos 1) (pos 3) (pos 7) (pos 0) (pos 0) (pos 0) (pos 0) (pos 0)
    ++ row (pos 24) (pos 0) (pos 2) (pos 9) (pos 29) (pos 0) (pos 0) (pos 0) (pos 0) (pos 0)
    ++ row (pos 24) (pos 1) (pos 1) (pos 7) (pos 27) (pos 0) (pos 0) (pos 0) (pos 0) (pos 0)

pub findings6 : findings sheet6 ≡ []
unfolding keep any_of all_of count_of last insert_by sort_by each upsert fold collect first first_place any_below count_below cell is between is_none in_range in_class width count joint_available_ms contains covers hits is_working_time interval_fits joint_working half_up rounded divided_by share_of ceiling ceiling_share at_speed timed_duration activity_at activities find_activity activities_of overlap split requirement_at requirements named_for is_candidate usage_on timing_at timing piece_of duration_on needed_ms constraint_at constraints resource_at resources find_resource listed windows transport_to transport_between assignment_at assignments_below assignments assignments_for_activity_all span_at time_only_below time_only time_only_for_activity latest earliest task_completion_time task_at tasks find_task activity_span units uses check_known check_assignment check_assignment_at check_assignments piece_calendars check_resumable check_plain check_booking check_calendars usage cap_override base_of cap_of bookings_on total most taken load_of peak_of load_at peak first_booked booked_at booked_resources check_resource check_capacity first_on check_overlaps differing check_constraint check_constraint_at check_constraints check_deadline check_deadlines parts_of work_of two_works check_parts_of check_split check_activity_parts check_parts end_to_start runs_on_all by_part pieces_of check_pair check_pairs check_task check_precedence claim candidate_id lacking claims unaccompanied not_simultaneous check_piece_requirements bookings_by_piece check_activity_requirements check_requirements check_schedule findings known seen check_first check_span check_span_at check_unplaced check_time_only held_among not_held assigned_with is_held runs_on eq of_bits mul of_int div
findings6 = refl

abbrev sheet7 : List ℤ
sheet7 =
    row (pos 11) (pos 2) (pos 0) (pos 1) (pos 0) (pos 0) (pos 0) (pos 0) (pos 0) (pos 0)
    ++ row (pos 4) (pos 0) (pos 0) (pos 0) (pos 0) (pos 0) (pos 0) (pos 0) (pos 0) (pos 0)
    ++ row (pos 11) (pos 0) (pos 1) (pos 2) (pos 0) (pos 0) (pos 0) (pos 0) (pos 0) (pos 0)
    ++ row (pos 1) (pos 0) none' none' (pos 0) (pos 0) (pos 0) (pos 0) (pos 0) (pos 0)
    ++ row (pos 13) (pos 3) (pos 0) (pos 0) (pos 0) (pos 0) (pos 0) (pos 0) (pos 0) (pos 0)
    ++ row (pos 11) (pos 1) (pos 1) (pos 2) (pos 0) (pos 0) (pos 0) (pos 0) (pos 0) (pos 0)
    ++ row (pos 5) (pos 0) (pos 0) (pos 1) (pos 1) (pos 0) (pos 0) (pos 0) (pos 0) (pos 0)
    ++ row (pos 11) (pos 3) (pos 1) (pos 2) (pos 0) (pos 0) (pos 0) (pos 0) (pos 0) (pos 0)
    ++ row (pos 2) (pos 1) (pos 0) (pos 0) (pos 1) (pos 10) (pos 1) (pos 0) none' (pos 0)
    ++ row (pos 13) (pos 0) (pos 2) (pos 0) (pos 0) (pos 0) (pos 0) (pos 0) (pos 0) (pos 0)
    ++ row (pos 2) (pos 0) (pos 0) (pos 0) (pos 0) (pos 10) (pos 0) (pos 0) none' (pos 0)
    ++ row (pos 4) (pos 1) (pos 2) (pos 1) (pos 1) (pos 0) (pos 0) (pos 0) (pos 0) (pos 0)
    ++ row (pos 5) (pos 0) (pos 0) (pos 1) (pos 1) (pos 0) (pos 0) (pos 0) (pos 0) (pos 0)
    ++ row (pos 23) (pos 0) (pos 1) (pos 0) (pos 3) (pos 14) (pos 0) (pos 4) (pos 10) (pos 0)
    ++ row (pos 10) (pos 0) (pos 3) (pos 1) (pos 7) (pos 0) (pos 0) (pos 0) (pos 0) (pos 0)
    ++ row (pos 10) (pos 0) (pos 0) (pos 0) (pos 1) (pos 1) (pos 0) (pos 0) (pos 0) (pos 0)
    ++ row (pos 5) (pos 1) (pos 1) (pos 2) (pos 1) (pos 0) (pos 0) (pos 0) (pos 0) (pos 0)
    ++ row (pos 23) (pos 0) (pos 0) (pos 1) (pos 3) (pos 10) (pos 0) (pos 0) (pos 5) (pos 0)
    ++ row (pos 10) (pos 0) (pos 1) (pos 0) (pos 0) (pos 1) (pos 0) (pos 0) (pos 0) (pos 0)

pub findings7 : findings sheet7 ≡ violation 1 9 0 95 ∷ violation 3 9 0 95 ∷ violation 3 9 0 95 ∷ violation 4 6 1 95 ∷ violation 4 6 0 95 ∷ violation 4 6 0 95 ∷ violation 4 6 0 95 ∷ violation 4 6 0 95 ∷ violation 4 6 0 95 ∷ []
unfolding keep any_of all_of count_of last insert_by sort_by each upsert fold collect first first_place any_below count_below cell is between is_none in_range in_class width count joint_available_ms contains covers hits is_working_time interval_fits joint_working half_up rounded divided_by share_of ceiling ceiling_share at_speed timed_duration activity_at activities find_activity activities_of overlap split requirement_at requirements named_for is_candidate usage_on timing_at timing piece_of duration_on needed_ms constraint_at constraints resource_at resources find_resource listed windows transport_to transport_between assignment_at assignments_below assignments assignments_for_activity_all span_at time_only_below time_only time_only_for_activity latest earliest task_completion_time task_at tasks find_task activity_span units uses check_known check_assignment check_assignment_at check_assignments piece_calendars check_resumable check_plain check_booking check_calendars usage cap_override base_of cap_of bookings_on total most taken load_of peak_of load_at peak first_booked booked_at booked_resources check_resource check_capacity first_on check_overlaps differing check_constraint check_constraint_at check_constraints check_deadline check_deadlines parts_of work_of two_works check_parts_of check_split check_activity_parts check_parts end_to_start runs_on_all by_part pieces_of check_pair check_pairs check_task check_precedence claim candidate_id lacking claims unaccompanied not_simultaneous check_piece_requirements bookings_by_piece check_activity_requirements check_requirements check_schedule findings known seen check_first check_span check_span_at check_unplaced check_time_only held_among not_held assigned_with is_held runs_on eq of_bits mul of_int div
findings7 = refl

abbrev sheet8 : List ℤ
sheet8 =
    row (pos 1) (pos 0) (pos 10) none' (pos 0) (pos 0) (pos 0) (pos 0) (pos 0) (pos 0)
    ++ row (pos 11) (pos 0) (pos 0) (pos 2) (pos 0) (pos 0) (pos 0) (pos 0) (pos 0) (pos 0)
    ++ row (pos 5) (pos 0) (pos 0) (pos 1) (pos 2) (pos 0) (pos 0) (pos 0) (pos 0) (pos 0)
    ++ row (pos 23) (pos 0) (pos 2) (pos 2) (pos 2) (pos 3) (pos 0) none' none' (pos 0)
    ++ row (pos 24) (pos 3) (pos 2) (pos 10) (pos 2) (pos 0) (pos 0) (pos 0) (pos 0) (pos 0)
    ++ row (pos 14) (pos 1) (pos 3) (pos 1) (pos 0) (pos 0) (pos 0) (pos 0) (pos 0) (pos 0)
    ++ row (pos 5) (pos 1) (pos 0) (pos 1) (pos 1) (pos 0) (pos 0) (pos 0) (pos 0) (pos 0)
    ++ row (pos 2) (pos 0) (pos 0) (pos 2) (pos 0) (pos 5) (pos 0) (pos 0) none' (pos 0)
    ++ row (pos 22) (pos 0) (pos 1) (pos 0) (pos 0) (pos 0) (pos 0) (pos 0) (pos 0) (pos 0)
    ++ row (pos 8) (pos 1) (pos 3) (pos 0) (pos 0) (pos 0) (pos 0) (pos 0) (pos 0) (pos 0)
    ++ row (pos 2) (pos 2) (pos 1) (pos 0) (pos 0) (pos 1) (pos 0) (pos 0) none' (pos 0)
    ++ row (pos 23) (pos 1) (pos 1) (pos 1) (pos 10) (pos 11) (pos 0) none' none' (pos 0)
    ++ row (pos 2) (pos 1) (pos 0) (pos 1) (pos 0) (pos 5) (pos 0) (pos 0) none' (pos 0)
    ++ row (pos 3) (pos 2) (pos 0) (pos 0) (pos 0) (pos 0) (pos 0) (pos 0) (pos 0) (pos 0)
    ++ row (pos 5) (pos 2) (pos 0) (pos 1) (pos 1) (pos 0) (pos 0) (pos 0) (pos 0) (pos 0)
    ++ row (pos 20) (pos 0) (pos 0) (pos 0) (pos 0) (pos 0) (pos 0) (pos 0) (pos 0) (pos 0)
    ++ row (pos 1) (pos 1) (pos 15) none' (pos 0) (pos 0) (pos 0) (pos 0) (pos 0) (pos 0)
    ++ row (pos 18) (pos 0) (pos 2) (pos 0) (pos 0) (pos 0) (pos 0) (pos 0) (pos 0) (pos 0)
    ++ row (pos 11) (pos 2) (pos 0) (pos 3) (pos 0) (pos 0) (pos 0) (pos 0) (pos 0) (pos 0)
    ++ row (pos 17) (pos 1) (pos 0) (pos 0) (pos 0) (pos 0) (pos 0) (pos 0) (pos 0) (pos 0)
    ++ row (pos 18) (pos 3) (pos 5) (pos 0) (pos 0) (pos 0) (pos 0) (pos 0) (pos 0) (pos 0)
    ++ row (pos 11) (pos 1) (pos 0) (pos 1) (pos 0) (pos 0) (pos 0) (pos 0) (pos 0) (pos 0)
    ++ row (pos 23) (pos 3) (pos 2) (pos 2) (pos 0) (pos 5) (pos 0) none' none' (pos 0)
    ++ row (pos 3) (pos 1) (pos 4599075939470750515) (pos 0) (pos 0) (pos 0) (pos 0) (pos 0) (pos 0) (pos 0)

pub findings8 : findings sheet8 ≡ violation 1 9 0 95 ∷ violation 1 9 1 95 ∷ violation 2 9 3 95 ∷ violation 4 6 2 95 ∷ violation 7 3 0 95 ∷ violation 7 3 0 95 ∷ []
unfolding keep any_of all_of count_of last insert_by sort_by each upsert fold collect first first_place any_below count_below cell is between is_none in_range in_class width count joint_available_ms contains covers hits is_working_time interval_fits joint_working half_up rounded divided_by share_of ceiling ceiling_share at_speed timed_duration activity_at activities find_activity activities_of overlap split requirement_at requirements named_for is_candidate usage_on timing_at timing piece_of duration_on needed_ms constraint_at constraints resource_at resources find_resource listed windows transport_to transport_between assignment_at assignments_below assignments assignments_for_activity_all span_at time_only_below time_only time_only_for_activity latest earliest task_completion_time task_at tasks find_task activity_span units uses check_known check_assignment check_assignment_at check_assignments piece_calendars check_resumable check_plain check_booking check_calendars usage cap_override base_of cap_of bookings_on total most taken load_of peak_of load_at peak first_booked booked_at booked_resources check_resource check_capacity first_on check_overlaps differing check_constraint check_constraint_at check_constraints check_deadline check_deadlines parts_of work_of two_works check_parts_of check_split check_activity_parts check_parts end_to_start runs_on_all by_part pieces_of check_pair check_pairs check_task check_precedence claim candidate_id lacking claims unaccompanied not_simultaneous check_piece_requirements bookings_by_piece check_activity_requirements check_requirements check_schedule findings known seen check_first check_span check_span_at check_unplaced check_time_only held_among not_held assigned_with is_held runs_on eq of_bits mul of_int div
findings8 = refl

abbrev sheet9 : List ℤ
sheet9 =
    row (pos 23) (pos 0) (pos 0) (pos 4) (pos 1) (pos 11) (pos 1) (pos 0) (pos 5) (pos 0)
    ++ row (pos 2) (pos 0) (pos 0) (pos 0) (pos 0) (pos 10) (pos 1) (pos 0) none' (pos 0)
    ++ row (pos 1) (pos 0) none' none' (pos 0) (pos 0) (pos 0) (pos 0) (pos 0) (pos 0)
    ++ row (pos 11) (pos 0) (pos 1) (pos 1) (pos 0) (pos 0) (pos 0) (pos 0) (pos 0) (pos 0)
    ++ row (pos 5) (pos 0) (pos 1) (pos 2) (pos 1) (pos 0) (pos 0) (pos 0) (pos 0) (pos 0)
    ++ row (pos 11) (pos 1) (pos 0) (pos 1) (pos 0) (pos 0) (pos 0) (pos 0) (pos 0) (pos 0)
    ++ row (pos 4) (pos 0) (negsuc 0) (pos 0) (pos 1) (pos 0) (pos 0) (pos 0) (pos 0) (pos 0)
    ++ row (pos 5) (pos 0) (pos 0) (pos 0) (pos 1) (pos 0) (pos 0) (pos 0) (pos 0) (pos 0)
    ++ row (pos 11) (pos 3) (pos 1) (pos 2) (pos 0) (pos 0) (pos 0) (pos 0) (pos 0) (pos 0)
    ++ row (pos 4) (pos 1) (pos 1) (pos 3) (pos 1) (pos 0) (pos 0) (pos 0) (pos 0) (pos 0)
    ++ row (pos 11) (pos 2) (pos 0) (pos 1) (pos 0) (pos 0) (pos 0) (pos 0) (pos 0) (pos 0)
    ++ row (pos 10) (pos 1) (pos 0) (pos 0) (pos 7) (pos 1) (pos 0) (pos 0) (pos 0) (pos 0)
    ++ row (pos 2) (pos 1) (pos 0) (pos 1) (pos 1) (pos 6) (pos 1) (pos 0) none' (pos 0)
    ++ row (pos 23) (pos 1) (pos 1) (pos 1) (pos 7) (pos 13) (pos 0) (pos 0) (pos 3) (pos 0)
    ++ row (pos 23) (pos 1) (pos 0) (pos 4) (pos 7) (pos 13) (pos 0) (pos 0) (pos 6) (pos 0)
    ++ row (pos 23) (pos 0) (pos 0) (pos 2) (pos 9) (pos 12) (pos 0) (pos 1) (pos 3) (pos 0)
    ++ row (pos 5) (pos 1) (pos 0) (negsuc 0) (pos 1) (pos 0) (pos 0) (pos 0) (pos 0) (pos 0)
    ++ row (pos 13) (pos 0) (pos 1) (pos 0) (pos 0) (pos 0) (pos 0) (pos 0) (pos 0) (pos 0)
    ++ row (pos 23) (pos 0) (pos 1) (pos 2) (pos 1) (pos 4) (pos 0) (pos 0) (pos 5) (pos 0)
    ++ row (pos 23) (pos 1) (pos 0) (pos 2) (pos 7) (pos 12) (pos 1) (pos 0) (pos 3) (pos 0)
    ++ row (pos 23) (pos 0) (pos 0) (pos 0) (pos 1) (pos 1) (pos 1) (pos 0) (pos 0) (pos 0)

pub findings9 : findings sheet9 ≡ violation 1 9 1 95 ∷ violation 1 10 1 90 ∷ violation 1 10 0 90 ∷ violation 1 9 0 95 ∷ violation 1 9 1 95 ∷ violation 1 10 0 90 ∷ violation 3 9 0 95 ∷ violation 3 9 0 95 ∷ violation 3 10 0 90 ∷ violation 3 9 1 95 ∷ violation 3 9 1 95 ∷ violation 3 10 1 90 ∷ violation 4 6 0 95 ∷ violation 4 6 0 95 ∷ violation 4 6 0 95 ∷ violation 4 6 0 95 ∷ violation 4 6 1 95 ∷ violation 5 2 4 90 ∷ violation 5 2 2 90 ∷ violation 7 3 1 95 ∷ []
unfolding keep any_of all_of count_of last insert_by sort_by each upsert fold collect first first_place any_below count_below cell is between is_none in_range in_class width count joint_available_ms contains covers hits is_working_time interval_fits joint_working half_up rounded divided_by share_of ceiling ceiling_share at_speed timed_duration activity_at activities find_activity activities_of overlap split requirement_at requirements named_for is_candidate usage_on timing_at timing piece_of duration_on needed_ms constraint_at constraints resource_at resources find_resource listed windows transport_to transport_between assignment_at assignments_below assignments assignments_for_activity_all span_at time_only_below time_only time_only_for_activity latest earliest task_completion_time task_at tasks find_task activity_span units uses check_known check_assignment check_assignment_at check_assignments piece_calendars check_resumable check_plain check_booking check_calendars usage cap_override base_of cap_of bookings_on total most taken load_of peak_of load_at peak first_booked booked_at booked_resources check_resource check_capacity first_on check_overlaps differing check_constraint check_constraint_at check_constraints check_deadline check_deadlines parts_of work_of two_works check_parts_of check_split check_activity_parts check_parts end_to_start runs_on_all by_part pieces_of check_pair check_pairs check_task check_precedence claim candidate_id lacking claims unaccompanied not_simultaneous check_piece_requirements bookings_by_piece check_activity_requirements check_requirements check_schedule findings known seen check_first check_span check_span_at check_unplaced check_time_only held_among not_held assigned_with is_held runs_on eq of_bits mul of_int div
findings9 = refl

abbrev sheet10 : List ℤ
sheet10 =
    row (pos 1) (pos 0) none' none' (pos 0) (pos 0) (pos 0) (pos 0) (pos 0) (pos 0)
    ++ row (pos 2) (pos 0) (pos 0) (pos 0) (pos 1) (pos 6) (pos 1) (pos 0) none' (pos 0)
    ++ row (pos 5) (pos 0) (pos 0) (pos 1) (pos 1) (pos 0) (pos 0) (pos 0) (pos 0) (pos 0)
    ++ row (pos 5) (pos 0) (pos 0) (pos 1) (pos 1) (pos 0) (pos 0) (pos 0) (pos 0) (pos 0)
    ++ row (pos 5) (pos 0) (pos 0) (pos 2) (pos 1) (pos 0) (pos 0) (pos 0) (pos 0) (pos 0)
    ++ row (pos 9) (pos 0) (pos 1) (pos 4602678819172646912) (pos 0) (pos 0) (pos 0) (pos 0) (pos 0) (pos 0)
    ++ row (pos 10) (pos 0) (pos 3) (pos 0) (pos 0) (pos 1) (pos 0) (pos 0) (pos 0) (pos 0)
    ++ row (pos 11) (pos 0) (pos 0) (pos 1) (pos 0) (pos 0) (pos 0) (pos 0) (pos 0) (pos 0)
    ++ row (pos 11) (pos 1) (pos 1) (pos 1) (pos 0) (pos 0) (pos 0) (pos 0) (pos 0) (pos 0)
    ++ row (pos 11) (pos 2) (pos 1) (pos 2) (pos 0) (pos 0) (pos 0) (pos 0) (pos 0) (pos 0)
    ++ row (pos 11) (pos 3) (pos 1) (pos 1) (pos 0) (pos 0) (pos 0) (pos 0) (pos 0) (pos 0)
    ++ row (pos 13) (pos 1) (pos 0) (pos 0) (pos 0) (pos 0) (pos 0) (pos 0) (pos 0) (pos 0)
    ++ row (pos 13) (pos 2) (pos 1) (pos 0) (pos 0) (pos 0) (pos 0) (pos 0) (pos 0) (pos 0)
    ++ row (pos 23) (pos 0) (pos 0) (pos 3) (pos 6) (pos 11) (pos 0) (pos 0) (pos 1) (pos 0)
    ++ row (pos 23) (pos 0) (pos 0) (pos 1) (pos 6) (pos 6) (pos 1) (negsuc 0) (pos 0) (pos 0)
    ++ row (pos 23) (pos 0) (pos 0) (pos 2) (pos 5) (pos 8) (pos 0) (pos 4) (pos 1) (pos 0)
    ++ row (pos 23) (pos 0) (pos 0) (pos 3) (pos 5) (pos 11) (pos 1) (pos 1) (pos 3) (pos 0)
    ++ row (pos 23) (pos 0) (pos 0) (pos 0) (pos 5) (pos 14) (pos 0) (pos 1) (pos 3) (pos 0)

pub findings10 : findings sheet10 ≡ violation 1 9 0 95 ∷ violation 1 9 0 95 ∷ violation 1 9 0 95 ∷ violation 1 9 0 95 ∷ violation 1 9 0 95 ∷ violation 4 6 0 95 ∷ violation 4 6 0 95 ∷ violation 4 6 0 95 ∷ violation 4 6 0 95 ∷ violation 4 6 0 95 ∷ violation 4 6 0 95 ∷ violation 4 6 0 95 ∷ violation 4 6 0 95 ∷ violation 4 6 0 95 ∷ violation 4 6 0 95 ∷ violation 4 6 0 95 ∷ violation 4 6 0 95 ∷ violation 4 6 0 95 ∷ violation 4 6 0 95 ∷ violation 5 2 3 90 ∷ []
unfolding keep any_of all_of count_of last insert_by sort_by each upsert fold collect first first_place any_below count_below cell is between is_none in_range in_class width count joint_available_ms contains covers hits is_working_time interval_fits joint_working half_up rounded divided_by share_of ceiling ceiling_share at_speed timed_duration activity_at activities find_activity activities_of overlap split requirement_at requirements named_for is_candidate usage_on timing_at timing piece_of duration_on needed_ms constraint_at constraints resource_at resources find_resource listed windows transport_to transport_between assignment_at assignments_below assignments assignments_for_activity_all span_at time_only_below time_only time_only_for_activity latest earliest task_completion_time task_at tasks find_task activity_span units uses check_known check_assignment check_assignment_at check_assignments piece_calendars check_resumable check_plain check_booking check_calendars usage cap_override base_of cap_of bookings_on total most taken load_of peak_of load_at peak first_booked booked_at booked_resources check_resource check_capacity first_on check_overlaps differing check_constraint check_constraint_at check_constraints check_deadline check_deadlines parts_of work_of two_works check_parts_of check_split check_activity_parts check_parts end_to_start runs_on_all by_part pieces_of check_pair check_pairs check_task check_precedence claim candidate_id lacking claims unaccompanied not_simultaneous check_piece_requirements bookings_by_piece check_activity_requirements check_requirements check_schedule findings known seen check_first check_span check_span_at check_unplaced check_time_only held_among not_held assigned_with is_held runs_on eq of_bits mul of_int div
findings10 = refl

abbrev sheet11 : List ℤ
sheet11 =
    row (pos 1) (pos 1) none' none' (pos 0) (pos 0) (pos 0) (pos 0) (pos 0) (pos 0)
    ++ row (pos 1) (pos 2) (pos 50) (pos 3) (pos 0) (pos 0) (pos 0) (pos 0) (pos 0) (pos 0)
    ++ row (pos 11) (pos 1) (pos 7) (pos 2) (pos 0) (pos 0) (pos 0) (pos 0) (pos 0) (pos 0)
    ++ row (pos 15) (pos 1) (pos 0) (pos 1) (pos 0) (pos 0) (pos 0) (pos 0) (pos 0) (pos 0)
    ++ row (pos 11) (pos 0) (pos 7) (pos 2) (pos 0) (pos 0) (pos 0) (pos 0) (pos 0) (pos 0)
    ++ row (pos 2) (pos 0) (pos 1) (pos 0) (pos 0) (pos 1) (pos 0) (pos 1) none' (pos 0)
    ++ row (pos 5) (pos 0) (pos 7) (pos 2) (pos 1) (pos 0) (pos 0) (pos 0) (pos 0) (pos 0)
    ++ row (pos 23) (pos 0) (pos 1) (pos 0) (pos 11) (pos 16) (pos 2) none' none' (pos 0)
    ++ row (pos 23) (pos 0) (pos 1) (pos 1) (pos 11) (pos 16) (pos 2) none' none' (pos 0)
    ++ row (pos 2) (pos 1) (pos 2) (pos 1) (pos 0) (pos 2) (pos 0) (pos 1) none' (pos 0)
    ++ row (pos 5) (pos 1) (pos 7) (pos 1) (pos 1) (pos 0) (pos 0) (pos 0) (pos 0) (pos 0)
    ++ row (pos 16) (pos 1) (pos 0) (pos 15) (pos 15) (pos 0) (pos 0) (pos 0) (pos 0) (pos 0)
    ++ row (pos 23) (pos 1) (pos 2) (pos 1) (pos 15) (pos 29) (pos 0) none' none' (pos 0)

pub findings11 : findings sheet11 ≡ violation 6 4 0 85 ∷ violation 6 4 1 85 ∷ violation 6 4 1 85 ∷ []
unfolding keep any_of all_of count_of last insert_by sort_by each upsert fold collect first first_place any_below count_below cell is between is_none in_range in_class width count joint_available_ms contains covers hits is_working_time interval_fits joint_working half_up rounded divided_by share_of ceiling ceiling_share at_speed timed_duration activity_at activities find_activity activities_of overlap split requirement_at requirements named_for is_candidate usage_on timing_at timing piece_of duration_on needed_ms constraint_at constraints resource_at resources find_resource listed windows transport_to transport_between assignment_at assignments_below assignments assignments_for_activity_all span_at time_only_below time_only time_only_for_activity latest earliest task_completion_time task_at tasks find_task activity_span units uses check_known check_assignment check_assignment_at check_assignments piece_calendars check_resumable check_plain check_booking check_calendars usage cap_override base_of cap_of bookings_on total most taken load_of peak_of load_at peak first_booked booked_at booked_resources check_resource check_capacity first_on check_overlaps differing check_constraint check_constraint_at check_constraints check_deadline check_deadlines parts_of work_of two_works check_parts_of check_split check_activity_parts check_parts end_to_start runs_on_all by_part pieces_of check_pair check_pairs check_task check_precedence claim candidate_id lacking claims unaccompanied not_simultaneous check_piece_requirements bookings_by_piece check_activity_requirements check_requirements check_schedule findings known seen check_first check_span check_span_at check_unplaced check_time_only held_among not_held assigned_with is_held runs_on eq of_bits mul of_int div
findings11 = refl

abbrev sheet12 : List ℤ
sheet12 =
    row (pos 1) (pos 0) none' none' (pos 0) (pos 0) (pos 0) (pos 0) (pos 0) (pos 0)
    ++ row (pos 11) (pos 0) (pos 1) (pos 2) (pos 0) (pos 0) (pos 0) (pos 0) (pos 0) (pos 0)
    ++ row (pos 11) (pos 1) (pos 0) (pos 2) (pos 0) (pos 0) (pos 0) (pos 0) (pos 0) (pos 0)
    ++ row (pos 11) (pos 2) (pos 1) (pos 1) (pos 0) (pos 0) (pos 0) (pos 0) (pos 0) (pos 0)
    ++ row (pos 11) (pos 3) (pos 1) (pos 2) (pos 0) (pos 0) (pos 0) (pos 0) (pos 0) (pos 0)
    ++ row (pos 13) (pos 2) (pos 1) (pos 0) (pos 0) (pos 0) (pos 0) (pos 0) (pos 0) (pos 0)
    ++ row (pos 13) (pos 2) (pos 0) (pos 0) (pos 0) (pos 0) (pos 0) (pos 0) (pos 0) (pos 0)
    ++ row (pos 2) (pos 0) (pos 0) (pos 0) (pos 0) (pos 0) (pos 0) (pos 0) none' (pos 0)
    ++ row (pos 4) (pos 0) (negsuc 0) (pos 0) (pos 2) (pos 0) (pos 0) (pos 0) (pos 0) (pos 0)
    ++ row (pos 5) (pos 0) (pos 0) (pos 1) (pos 1) (pos 0) (pos 0) (pos 0) (pos 0) (pos 0)
    ++ row (pos 9) (pos 0) (pos 0) (pos 4607182418800017408) (pos 0) (pos 0) (pos 0) (pos 0) (pos 0) (pos 0)
    ++ row (pos 9) (pos 0) (pos 2) (pos 4611686018427387904) (pos 0) (pos 0) (pos 0) (pos 0) (pos 0) (pos 0)
    ++ row (pos 23) (pos 0) (pos 0) (pos 1) (pos 2) (pos 5) (pos 0) (pos 0) (pos 0) (pos 0)
    ++ row (pos 23) (pos 0) (pos 0) (pos 0) (pos 2) (pos 2) (pos 1) (pos 0) (pos 0) (pos 0)

pub findings12 : findings sheet12 ≡ violation 1 9 0 95 ∷ violation 1 10 0 90 ∷ violation 3 9 0 95 ∷ violation 4 6 0 95 ∷ []
unfolding keep any_of all_of count_of last insert_by sort_by each upsert fold collect first first_place any_below count_below cell is between is_none in_range in_class width count joint_available_ms contains covers hits is_working_time interval_fits joint_working half_up rounded divided_by share_of ceiling ceiling_share at_speed timed_duration activity_at activities find_activity activities_of overlap split requirement_at requirements named_for is_candidate usage_on timing_at timing piece_of duration_on needed_ms constraint_at constraints resource_at resources find_resource listed windows transport_to transport_between assignment_at assignments_below assignments assignments_for_activity_all span_at time_only_below time_only time_only_for_activity latest earliest task_completion_time task_at tasks find_task activity_span units uses check_known check_assignment check_assignment_at check_assignments piece_calendars check_resumable check_plain check_booking check_calendars usage cap_override base_of cap_of bookings_on total most taken load_of peak_of load_at peak first_booked booked_at booked_resources check_resource check_capacity first_on check_overlaps differing check_constraint check_constraint_at check_constraints check_deadline check_deadlines parts_of work_of two_works check_parts_of check_split check_activity_parts check_parts end_to_start runs_on_all by_part pieces_of check_pair check_pairs check_task check_precedence claim candidate_id lacking claims unaccompanied not_simultaneous check_piece_requirements bookings_by_piece check_activity_requirements check_requirements check_schedule findings known seen check_first check_span check_span_at check_unplaced check_time_only held_among not_held assigned_with is_held runs_on eq of_bits mul of_int div
findings12 = refl

abbrev sheet13 : List ℤ
sheet13 =
    row (pos 1) (pos 1) none' none' (pos 0) (pos 0) (pos 0) (pos 0) (pos 0) (pos 0)
    ++ row (pos 1) (pos 2) (pos 50) (pos 3) (pos 0) (pos 0) (pos 0) (pos 0) (pos 0) (pos 0)
    ++ row (pos 11) (pos 4) (pos 7) (pos 2) (pos 0) (pos 0) (pos 0) (pos 0) (pos 0) (pos 0)
    ++ row (pos 2) (pos 0) (pos 1) (pos 0) (pos 0) (pos 4) (pos 1) (pos 0) none' (pos 0)
    ++ row (pos 5) (pos 0) (pos 7) (pos 1) (pos 1) (pos 0) (pos 0) (pos 0) (pos 0) (pos 0)
    ++ row (pos 16) (pos 0) (pos 0) (pos 23) (pos 23) (pos 0) (pos 0) (pos 0) (pos 0) (pos 0)
    ++ row (pos 16) (pos 0) (pos 1) (pos 9) (pos 13) (pos 0) (pos 0) (pos 0) (pos 0) (pos 0)
    ++ row (pos 23) (pos 0) (pos 2) (pos 4) (pos 16) (pos 26) (pos 2) none' none' (pos 0)
    ++ row (pos 2) (pos 1) (pos 2) (pos 1) (pos 2) (pos 5) (pos 0) (pos 0) none' (pos 0)
    ++ row (pos 5) (pos 1) (pos 7) (pos 1) (pos 1) (pos 0) (pos 0) (pos 0) (pos 0) (pos 0)
    ++ row (pos 16) (pos 1) (pos 0) (pos 3) (pos 7) (pos 0) (pos 0) (pos 0) (pos 0) (pos 0)
    ++ row (pos 23) (pos 1) (pos 1) (pos 4) (pos 9) (pos 29) (pos 0) none' none' (pos 0)
    ++ row (pos 2) (pos 2) (pos 2) (pos 2) (pos 2) (pos 12) (pos 0) (pos 1) none' (pos 0)
    ++ row (pos 5) (pos 2) (pos 7) (pos 1) (pos 1) (pos 0) (pos 0) (pos 0) (pos 0) (pos 0)
    ++ row (pos 23) (pos 2) (pos 2) (pos 4) (pos 24) (pos 54) (pos 0) none' none' (pos 0)

pub findings13 : findings sheet13 ≡ violation 1 9 0 95 ∷ violation 1 9 1 95 ∷ violation 5 2 4 90 ∷ violation 6 7 0 75 ∷ violation 6 7 1 75 ∷ violation 7 3 2 95 ∷ violation 8 1 2 80 ∷ []
unfolding keep any_of all_of count_of last insert_by sort_by each upsert fold collect first first_place any_below count_below cell is between is_none in_range in_class width count joint_available_ms contains covers hits is_working_time interval_fits joint_working half_up rounded divided_by share_of ceiling ceiling_share at_speed timed_duration activity_at activities find_activity activities_of overlap split requirement_at requirements named_for is_candidate usage_on timing_at timing piece_of duration_on needed_ms constraint_at constraints resource_at resources find_resource listed windows transport_to transport_between assignment_at assignments_below assignments assignments_for_activity_all span_at time_only_below time_only time_only_for_activity latest earliest task_completion_time task_at tasks find_task activity_span units uses check_known check_assignment check_assignment_at check_assignments piece_calendars check_resumable check_plain check_booking check_calendars usage cap_override base_of cap_of bookings_on total most taken load_of peak_of load_at peak first_booked booked_at booked_resources check_resource check_capacity first_on check_overlaps differing check_constraint check_constraint_at check_constraints check_deadline check_deadlines parts_of work_of two_works check_parts_of check_split check_activity_parts check_parts end_to_start runs_on_all by_part pieces_of check_pair check_pairs check_task check_precedence claim candidate_id lacking claims unaccompanied not_simultaneous check_piece_requirements bookings_by_piece check_activity_requirements check_requirements check_schedule findings known seen check_first check_span check_span_at check_unplaced check_time_only held_among not_held assigned_with is_held runs_on eq of_bits mul of_int div
findings13 = refl

-- bookings are claimed in row order: the first requirement takes either of the two, the second only the one that is booked first
abbrev sheet14 : List ℤ
sheet14 =
    row (pos 1) (pos 0) none' none' (pos 0) (pos 0) (pos 0) (pos 0) (pos 0) (pos 0)
    ++ row (pos 2) (pos 0) (pos 0) (pos 0) (pos 0) (pos 5) (pos 0) (pos 0) none' (pos 0)
    ++ row (pos 5) (pos 0) (pos 7) (pos 1) (pos 1) (pos 0) (pos 0) (pos 0) (pos 0) (pos 0)
    ++ row (pos 6) (pos 0) (pos 0) (pos 1) (pos 0) (pos 0) (pos 0) (pos 0) (pos 0) (pos 0)
    ++ row (pos 6) (pos 0) (pos 0) (pos 2) (pos 0) (pos 0) (pos 0) (pos 0) (pos 0) (pos 0)
    ++ row (pos 5) (pos 0) (pos 8) (pos 1) (pos 1) (pos 0) (pos 0) (pos 0) (pos 0) (pos 0)
    ++ row (pos 11) (pos 1) (pos 8) (pos 1) (pos 0) (pos 0) (pos 0) (pos 0) (pos 0) (pos 0)
    ++ row (pos 11) (pos 2) (pos 7) (pos 1) (pos 0) (pos 0) (pos 0) (pos 0) (pos 0) (pos 0)
    ++ row (pos 23) (pos 0) (pos 0) (pos 1) (pos 10) (pos 15) (pos 0) none' none' (pos 0)
    ++ row (pos 23) (pos 0) (pos 0) (pos 2) (pos 10) (pos 15) (pos 0) none' none' (pos 0)

pub findings14 : findings sheet14 ≡ violation 4 6 0 95 ∷ []
unfolding keep any_of all_of count_of last insert_by sort_by each upsert fold collect first first_place any_below count_below cell is between is_none in_range in_class width count joint_available_ms contains covers hits is_working_time interval_fits joint_working half_up rounded divided_by share_of ceiling ceiling_share at_speed timed_duration activity_at activities find_activity activities_of overlap split requirement_at requirements named_for is_candidate usage_on timing_at timing piece_of duration_on needed_ms constraint_at constraints resource_at resources find_resource listed windows transport_to transport_between assignment_at assignments_below assignments assignments_for_activity_all span_at time_only_below time_only time_only_for_activity latest earliest task_completion_time task_at tasks find_task activity_span units uses check_known check_assignment check_assignment_at check_assignments piece_calendars check_resumable check_plain check_booking check_calendars usage cap_override base_of cap_of bookings_on total most taken load_of peak_of load_at peak first_booked booked_at booked_resources check_resource check_capacity first_on check_overlaps differing check_constraint check_constraint_at check_constraints check_deadline check_deadlines parts_of work_of two_works check_parts_of check_split check_activity_parts check_parts end_to_start runs_on_all by_part pieces_of check_pair check_pairs check_task check_precedence claim candidate_id lacking claims unaccompanied not_simultaneous check_piece_requirements bookings_by_piece check_activity_requirements check_requirements check_schedule findings known seen check_first check_span check_span_at check_unplaced check_time_only held_among not_held assigned_with is_held runs_on eq of_bits mul of_int div
findings14 = refl

-- the same with the bookings in the other order
abbrev sheet15 : List ℤ
sheet15 =
    row (pos 1) (pos 0) none' none' (pos 0) (pos 0) (pos 0) (pos 0) (pos 0) (pos 0)
    ++ row (pos 2) (pos 0) (pos 0) (pos 0) (pos 0) (pos 5) (pos 0) (pos 0) none' (pos 0)
    ++ row (pos 5) (pos 0) (pos 7) (pos 1) (pos 1) (pos 0) (pos 0) (pos 0) (pos 0) (pos 0)
    ++ row (pos 6) (pos 0) (pos 0) (pos 1) (pos 0) (pos 0) (pos 0) (pos 0) (pos 0) (pos 0)
    ++ row (pos 6) (pos 0) (pos 0) (pos 2) (pos 0) (pos 0) (pos 0) (pos 0) (pos 0) (pos 0)
    ++ row (pos 5) (pos 0) (pos 8) (pos 1) (pos 1) (pos 0) (pos 0) (pos 0) (pos 0) (pos 0)
    ++ row (pos 11) (pos 1) (pos 8) (pos 1) (pos 0) (pos 0) (pos 0) (pos 0) (pos 0) (pos 0)
    ++ row (pos 11) (pos 2) (pos 7) (pos 1) (pos 0) (pos 0) (pos 0) (pos 0) (pos 0) (pos 0)
    ++ row (pos 23) (pos 0) (pos 0) (pos 2) (pos 10) (pos 15) (pos 0) none' none' (pos 0)
    ++ row (pos 23) (pos 0) (pos 0) (pos 1) (pos 10) (pos 15) (pos 0) none' none' (pos 0)

pub findings15 : findings sheet15 ≡ []
unfolding keep any_of all_of count_of last insert_by sort_by each upsert fold collect first first_place any_below count_below cell is between is_none in_range in_class width count joint_available_ms contains covers hits is_working_time interval_fits joint_working half_up rounded divided_by share_of ceiling ceiling_share at_speed timed_duration activity_at activities find_activity activities_of overlap split requirement_at requirements named_for is_candidate usage_on timing_at timing piece_of duration_on needed_ms constraint_at constraints resource_at resources find_resource listed windows transport_to transport_between assignment_at assignments_below assignments assignments_for_activity_all span_at time_only_below time_only time_only_for_activity latest earliest task_completion_time task_at tasks find_task activity_span units uses check_known check_assignment check_assignment_at check_assignments piece_calendars check_resumable check_plain check_booking check_calendars usage cap_override base_of cap_of bookings_on total most taken load_of peak_of load_at peak first_booked booked_at booked_resources check_resource check_capacity first_on check_overlaps differing check_constraint check_constraint_at check_constraints check_deadline check_deadlines parts_of work_of two_works check_parts_of check_split check_activity_parts check_parts end_to_start runs_on_all by_part pieces_of check_pair check_pairs check_task check_precedence claim candidate_id lacking claims unaccompanied not_simultaneous check_piece_requirements bookings_by_piece check_activity_requirements check_requirements check_schedule findings known seen check_first check_span check_span_at check_unplaced check_time_only held_among not_held assigned_with is_held runs_on eq of_bits mul of_int div
findings15 = refl

-- booked before the releases of its task and of its activity
abbrev sheet16 : List ℤ
sheet16 =
    row (pos 1) (pos 1) none' (pos 20) (pos 0) (pos 0) (pos 0) (pos 0) (pos 0) (pos 0)
    ++ row (pos 2) (pos 10) (pos 1) (pos 0) (pos 0) (pos 60) (pos 0) (pos 0) (pos 20) (pos 0)
    ++ row (pos 5) (pos 10) (pos 7) (pos 1) (pos 1) (pos 0) (pos 0) (pos 0) (pos 0) (pos 0)
    ++ row (pos 11) (pos 5) (pos 7) (pos 1) (pos 0) (pos 0) (pos 0) (pos 0) (pos 0) (pos 0)
    ++ row (pos 23) (pos 10) (pos 1) (pos 5) (pos 0) (pos 60) (pos 0) none' none' (pos 0)

pub findings16 : findings sheet16 ≡ violation 1 11 10 90 ∷ violation 1 11 10 90 ∷ []
unfolding keep any_of all_of count_of last insert_by sort_by each upsert fold collect first first_place any_below count_below cell is between is_none in_range in_class width count joint_available_ms contains covers hits is_working_time interval_fits joint_working half_up rounded divided_by share_of ceiling ceiling_share at_speed timed_duration activity_at activities find_activity activities_of overlap split requirement_at requirements named_for is_candidate usage_on timing_at timing piece_of duration_on needed_ms constraint_at constraints resource_at resources find_resource listed windows transport_to transport_between assignment_at assignments_below assignments assignments_for_activity_all span_at time_only_below time_only time_only_for_activity latest earliest task_completion_time task_at tasks find_task activity_span units uses check_known check_assignment check_assignment_at check_assignments piece_calendars check_resumable check_plain check_booking check_calendars usage cap_override base_of cap_of bookings_on total most taken load_of peak_of load_at peak first_booked booked_at booked_resources check_resource check_capacity first_on check_overlaps differing check_constraint check_constraint_at check_constraints check_deadline check_deadlines parts_of work_of two_works check_parts_of check_split check_activity_parts check_parts end_to_start runs_on_all by_part pieces_of check_pair check_pairs check_task check_precedence claim candidate_id lacking claims unaccompanied not_simultaneous check_piece_requirements bookings_by_piece check_activity_requirements check_requirements check_schedule findings known seen check_first check_span check_span_at check_unplaced check_time_only held_among not_held assigned_with is_held runs_on eq of_bits mul of_int div
findings16 = refl

-- an activity that holds no resource, with no span
abbrev sheet17 : List ℤ
sheet17 =
    row (pos 1) (pos 1) none' none' (pos 0) (pos 0) (pos 0) (pos 0) (pos 0) (pos 0)
    ++ row (pos 2) (pos 10) (pos 1) (pos 0) (pos 0) (pos 60) (pos 0) (pos 0) none' (pos 0)

pub findings17 : findings sheet17 ≡ violation 2 7 10 75 ∷ []
unfolding keep any_of all_of count_of last insert_by sort_by each upsert fold collect first first_place any_below count_below cell is between is_none in_range in_class width count joint_available_ms contains covers hits is_working_time interval_fits joint_working half_up rounded divided_by share_of ceiling ceiling_share at_speed timed_duration activity_at activities find_activity activities_of overlap split requirement_at requirements named_for is_candidate usage_on timing_at timing piece_of duration_on needed_ms constraint_at constraints resource_at resources find_resource listed windows transport_to transport_between assignment_at assignments_below assignments assignments_for_activity_all span_at time_only_below time_only time_only_for_activity latest earliest task_completion_time task_at tasks find_task activity_span units uses check_known check_assignment check_assignment_at check_assignments piece_calendars check_resumable check_plain check_booking check_calendars usage cap_override base_of cap_of bookings_on total most taken load_of peak_of load_at peak first_booked booked_at booked_resources check_resource check_capacity first_on check_overlaps differing check_constraint check_constraint_at check_constraints check_deadline check_deadlines parts_of work_of two_works check_parts_of check_split check_activity_parts check_parts end_to_start runs_on_all by_part pieces_of check_pair check_pairs check_task check_precedence claim candidate_id lacking claims unaccompanied not_simultaneous check_piece_requirements bookings_by_piece check_activity_requirements check_requirements check_schedule findings known seen check_first check_span check_span_at check_unplaced check_time_only held_among not_held assigned_with is_held runs_on eq of_bits mul of_int div
findings17 = refl

-- a span that ends after the window of its activity
abbrev sheet18 : List ℤ
sheet18 =
    row (pos 1) (pos 1) none' none' (pos 0) (pos 0) (pos 0) (pos 0) (pos 0) (pos 0)
    ++ row (pos 2) (pos 10) (pos 1) (pos 0) (pos 0) (pos 60) (pos 0) (pos 0) none' (pos 0)
    ++ row (pos 16) (pos 10) (pos 0) (pos 0) (pos 50) (pos 0) (pos 0) (pos 0) (pos 0) (pos 0)
    ++ row (pos 24) (pos 10) (pos 1) (pos 0) (pos 60) (pos 0) (pos 0) (pos 0) (pos 0) (pos 0)

pub findings18 : findings sheet18 ≡ violation 2 7 10 75 ∷ []
unfolding keep any_of all_of count_of last insert_by sort_by each upsert fold collect first first_place any_below count_below cell is between is_none in_range in_class width count joint_available_ms contains covers hits is_working_time interval_fits joint_working half_up rounded divided_by share_of ceiling ceiling_share at_speed timed_duration activity_at activities find_activity activities_of overlap split requirement_at requirements named_for is_candidate usage_on timing_at timing piece_of duration_on needed_ms constraint_at constraints resource_at resources find_resource listed windows transport_to transport_between assignment_at assignments_below assignments assignments_for_activity_all span_at time_only_below time_only time_only_for_activity latest earliest task_completion_time task_at tasks find_task activity_span units uses check_known check_assignment check_assignment_at check_assignments piece_calendars check_resumable check_plain check_booking check_calendars usage cap_override base_of cap_of bookings_on total most taken load_of peak_of load_at peak first_booked booked_at booked_resources check_resource check_capacity first_on check_overlaps differing check_constraint check_constraint_at check_constraints check_deadline check_deadlines parts_of work_of two_works check_parts_of check_split check_activity_parts check_parts end_to_start runs_on_all by_part pieces_of check_pair check_pairs check_task check_precedence claim candidate_id lacking claims unaccompanied not_simultaneous check_piece_requirements bookings_by_piece check_activity_requirements check_requirements check_schedule findings known seen check_first check_span check_span_at check_unplaced check_time_only held_among not_held assigned_with is_held runs_on eq of_bits mul of_int div
findings18 = refl

-- a span that is one ms too short
abbrev sheet19 : List ℤ
sheet19 =
    row (pos 1) (pos 1) none' none' (pos 0) (pos 0) (pos 0) (pos 0) (pos 0) (pos 0)
    ++ row (pos 2) (pos 10) (pos 1) (pos 0) (pos 0) (pos 60) (pos 0) (pos 0) none' (pos 0)
    ++ row (pos 24) (pos 10) (pos 1) (pos 0) (pos 59) (pos 0) (pos 0) (pos 0) (pos 0) (pos 0)

pub findings19 : findings sheet19 ≡ violation 2 10 10 90 ∷ []
unfolding keep any_of all_of count_of last insert_by sort_by each upsert fold collect first first_place any_below count_below cell is between is_none in_range in_class width count joint_available_ms contains covers hits is_working_time interval_fits joint_working half_up rounded divided_by share_of ceiling ceiling_share at_speed timed_duration activity_at activities find_activity activities_of overlap split requirement_at requirements named_for is_candidate usage_on timing_at timing piece_of duration_on needed_ms constraint_at constraints resource_at resources find_resource listed windows transport_to transport_between assignment_at assignments_below assignments assignments_for_activity_all span_at time_only_below time_only time_only_for_activity latest earliest task_completion_time task_at tasks find_task activity_span units uses check_known check_assignment check_assignment_at check_assignments piece_calendars check_resumable check_plain check_booking check_calendars usage cap_override base_of cap_of bookings_on total most taken load_of peak_of load_at peak first_booked booked_at booked_resources check_resource check_capacity first_on check_overlaps differing check_constraint check_constraint_at check_constraints check_deadline check_deadlines parts_of work_of two_works check_parts_of check_split check_activity_parts check_parts end_to_start runs_on_all by_part pieces_of check_pair check_pairs check_task check_precedence claim candidate_id lacking claims unaccompanied not_simultaneous check_piece_requirements bookings_by_piece check_activity_requirements check_requirements check_schedule findings known seen check_first check_span check_span_at check_unplaced check_time_only held_among not_held assigned_with is_held runs_on eq of_bits mul of_int div
findings19 = refl

-- a span before the releases of its task and of its activity
abbrev sheet20 : List ℤ
sheet20 =
    row (pos 1) (pos 1) none' (pos 20) (pos 0) (pos 0) (pos 0) (pos 0) (pos 0) (pos 0)
    ++ row (pos 2) (pos 10) (pos 1) (pos 0) (pos 0) (pos 60) (pos 0) (pos 0) (pos 20) (pos 0)
    ++ row (pos 24) (pos 10) (pos 1) (pos 0) (pos 60) (pos 0) (pos 0) (pos 0) (pos 0) (pos 0)

pub findings20 : findings sheet20 ≡ violation 2 11 10 90 ∷ violation 2 11 10 90 ∷ []
unfolding keep any_of all_of count_of last insert_by sort_by each upsert fold collect first first_place any_below count_below cell is between is_none in_range in_class width count joint_available_ms contains covers hits is_working_time interval_fits joint_working half_up rounded divided_by share_of ceiling ceiling_share at_speed timed_duration activity_at activities find_activity activities_of overlap split requirement_at requirements named_for is_candidate usage_on timing_at timing piece_of duration_on needed_ms constraint_at constraints resource_at resources find_resource listed windows transport_to transport_between assignment_at assignments_below assignments assignments_for_activity_all span_at time_only_below time_only time_only_for_activity latest earliest task_completion_time task_at tasks find_task activity_span units uses check_known check_assignment check_assignment_at check_assignments piece_calendars check_resumable check_plain check_booking check_calendars usage cap_override base_of cap_of bookings_on total most taken load_of peak_of load_at peak first_booked booked_at booked_resources check_resource check_capacity first_on check_overlaps differing check_constraint check_constraint_at check_constraints check_deadline check_deadlines parts_of work_of two_works check_parts_of check_split check_activity_parts check_parts end_to_start runs_on_all by_part pieces_of check_pair check_pairs check_task check_precedence claim candidate_id lacking claims unaccompanied not_simultaneous check_piece_requirements bookings_by_piece check_activity_requirements check_requirements check_schedule findings known seen check_first check_span check_span_at check_unplaced check_time_only held_among not_held assigned_with is_held runs_on eq of_bits mul of_int div
findings20 = refl

-- a skill is lacking
abbrev sheet21 : List ℤ
sheet21 =
    row (pos 1) (pos 1) none' none' (pos 0) (pos 0) (pos 0) (pos 0) (pos 0) (pos 0)
    ++ row (pos 2) (pos 10) (pos 1) (pos 0) (pos 0) (pos 60) (pos 0) (pos 0) none' (pos 0)
    ++ row (pos 5) (pos 10) (pos 7) (pos 1) (pos 1) (pos 0) (pos 0) (pos 0) (pos 0) (pos 0)
    ++ row (pos 7) (pos 10) (pos 0) (pos 3) (pos 0) (pos 0) (pos 0) (pos 0) (pos 0) (pos 0)
    ++ row (pos 11) (pos 5) (pos 7) (pos 1) (pos 0) (pos 0) (pos 0) (pos 0) (pos 0) (pos 0)
    ++ row (pos 23) (pos 10) (pos 1) (pos 5) (pos 0) (pos 60) (pos 0) none' none' (pos 0)

pub findings21 : findings sheet21 ≡ violation 4 5 5 70 ∷ []
unfolding keep any_of all_of count_of last insert_by sort_by each upsert fold collect first first_place any_below count_below cell is between is_none in_range in_class width count joint_available_ms contains covers hits is_working_time interval_fits joint_working half_up rounded divided_by share_of ceiling ceiling_share at_speed timed_duration activity_at activities find_activity activities_of overlap split requirement_at requirements named_for is_candidate usage_on timing_at timing piece_of duration_on needed_ms constraint_at constraints resource_at resources find_resource listed windows transport_to transport_between assignment_at assignments_below assignments assignments_for_activity_all span_at time_only_below time_only time_only_for_activity latest earliest task_completion_time task_at tasks find_task activity_span units uses check_known check_assignment check_assignment_at check_assignments piece_calendars check_resumable check_plain check_booking check_calendars usage cap_override base_of cap_of bookings_on total most taken load_of peak_of load_at peak first_booked booked_at booked_resources check_resource check_capacity first_on check_overlaps differing check_constraint check_constraint_at check_constraints check_deadline check_deadlines parts_of work_of two_works check_parts_of check_split check_activity_parts check_parts end_to_start runs_on_all by_part pieces_of check_pair check_pairs check_task check_precedence claim candidate_id lacking claims unaccompanied not_simultaneous check_piece_requirements bookings_by_piece check_activity_requirements check_requirements check_schedule findings known seen check_first check_span check_span_at check_unplaced check_time_only held_among not_held assigned_with is_held runs_on eq of_bits mul of_int div
findings21 = refl

-- two overlap by one ms on a resource of no-overlap
abbrev sheet22 : List ℤ
sheet22 =
    row (pos 11) (pos 5) (pos 7) (pos 2) (pos 0) (pos 0) (pos 0) (pos 0) (pos 0) (pos 0)
    ++ row (pos 20) (pos 5) (pos 0) (pos 0) (pos 0) (pos 0) (pos 0) (pos 0) (pos 0) (pos 0)
    ++ row (pos 22) (pos 0) (pos 10) (pos 0) (pos 0) (pos 0) (pos 0) (pos 0) (pos 0) (pos 0)
    ++ row (pos 22) (pos 0) (pos 11) (pos 0) (pos 0) (pos 0) (pos 0) (pos 0) (pos 0) (pos 0)
    ++ row (pos 23) (pos 10) (pos 9) (pos 5) (pos 0) (pos 60) (pos 0) none' none' (pos 0)
    ++ row (pos 23) (pos 11) (pos 9) (pos 5) (pos 59) (pos 119) (pos 0) none' none' (pos 0)

pub findings22 : findings sheet22 ≡ violation 9 2 5 90 ∷ []
unfolding keep any_of all_of count_of last insert_by sort_by each upsert fold collect first first_place any_below count_below cell is between is_none in_range in_class width count joint_available_ms contains covers hits is_working_time interval_fits joint_working half_up rounded divided_by share_of ceiling ceiling_share at_speed timed_duration activity_at activities find_activity activities_of overlap split requirement_at requirements named_for is_candidate usage_on timing_at timing piece_of duration_on needed_ms constraint_at constraints resource_at resources find_resource listed windows transport_to transport_between assignment_at assignments_below assignments assignments_for_activity_all span_at time_only_below time_only time_only_for_activity latest earliest task_completion_time task_at tasks find_task activity_span units uses check_known check_assignment check_assignment_at check_assignments piece_calendars check_resumable check_plain check_booking check_calendars usage cap_override base_of cap_of bookings_on total most taken load_of peak_of load_at peak first_booked booked_at booked_resources check_resource check_capacity first_on check_overlaps differing check_constraint check_constraint_at check_constraints check_deadline check_deadlines parts_of work_of two_works check_parts_of check_split check_activity_parts check_parts end_to_start runs_on_all by_part pieces_of check_pair check_pairs check_task check_precedence claim candidate_id lacking claims unaccompanied not_simultaneous check_piece_requirements bookings_by_piece check_activity_requirements check_requirements check_schedule findings known seen check_first check_span check_span_at check_unplaced check_time_only held_among not_held assigned_with is_held runs_on eq of_bits mul of_int div
findings22 = refl

-- booked from before its time window
abbrev sheet23 : List ℤ
sheet23 =
    row (pos 19) (pos 10) (pos 10) (pos 90) (pos 0) (pos 0) (pos 0) (pos 0) (pos 0) (pos 0)
    ++ row (pos 23) (pos 10) (pos 9) (pos 5) (pos 0) (pos 60) (pos 0) none' none' (pos 0)

pub findings23 : findings sheet23 ≡ violation 9 7 10 75 ∷ []
unfolding keep any_of all_of count_of last insert_by sort_by each upsert fold collect first first_place any_below count_below cell is between is_none in_range in_class width count joint_available_ms contains covers hits is_working_time interval_fits joint_working half_up rounded divided_by share_of ceiling ceiling_share at_speed timed_duration activity_at activities find_activity activities_of overlap split requirement_at requirements named_for is_candidate usage_on timing_at timing piece_of duration_on needed_ms constraint_at constraints resource_at resources find_resource listed windows transport_to transport_between assignment_at assignments_below assignments assignments_for_activity_all span_at time_only_below time_only time_only_for_activity latest earliest task_completion_time task_at tasks find_task activity_span units uses check_known check_assignment check_assignment_at check_assignments piece_calendars check_resumable check_plain check_booking check_calendars usage cap_override base_of cap_of bookings_on total most taken load_of peak_of load_at peak first_booked booked_at booked_resources check_resource check_capacity first_on check_overlaps differing check_constraint check_constraint_at check_constraints check_deadline check_deadlines parts_of work_of two_works check_parts_of check_split check_activity_parts check_parts end_to_start runs_on_all by_part pieces_of check_pair check_pairs check_task check_precedence claim candidate_id lacking claims unaccompanied not_simultaneous check_piece_requirements bookings_by_piece check_activity_requirements check_requirements check_schedule findings known seen check_first check_span check_span_at check_unplaced check_time_only held_among not_held assigned_with is_held runs_on eq of_bits mul of_int div
findings23 = refl

-- booked to after its time window
abbrev sheet24 : List ℤ
sheet24 =
    row (pos 19) (pos 10) (pos 0) (pos 50) (pos 0) (pos 0) (pos 0) (pos 0) (pos 0) (pos 0)
    ++ row (pos 23) (pos 10) (pos 9) (pos 5) (pos 0) (pos 60) (pos 0) none' none' (pos 0)

pub findings24 : findings sheet24 ≡ violation 9 7 10 75 ∷ []
unfolding keep any_of all_of count_of last insert_by sort_by each upsert fold collect first first_place any_below count_below cell is between is_none in_range in_class width count joint_available_ms contains covers hits is_working_time interval_fits joint_working half_up rounded divided_by share_of ceiling ceiling_share at_speed timed_duration activity_at activities find_activity activities_of overlap split requirement_at requirements named_for is_candidate usage_on timing_at timing piece_of duration_on needed_ms constraint_at constraints resource_at resources find_resource listed windows transport_to transport_between assignment_at assignments_below assignments assignments_for_activity_all span_at time_only_below time_only time_only_for_activity latest earliest task_completion_time task_at tasks find_task activity_span units uses check_known check_assignment check_assignment_at check_assignments piece_calendars check_resumable check_plain check_booking check_calendars usage cap_override base_of cap_of bookings_on total most taken load_of peak_of load_at peak first_booked booked_at booked_resources check_resource check_capacity first_on check_overlaps differing check_constraint check_constraint_at check_constraints check_deadline check_deadlines parts_of work_of two_works check_parts_of check_split check_activity_parts check_parts end_to_start runs_on_all by_part pieces_of check_pair check_pairs check_task check_precedence claim candidate_id lacking claims unaccompanied not_simultaneous check_piece_requirements bookings_by_piece check_activity_requirements check_requirements check_schedule findings known seen check_first check_span check_span_at check_unplaced check_time_only held_among not_held assigned_with is_held runs_on eq of_bits mul of_int div
findings24 = refl

-- synchronize: the entity is the place of the constraint
abbrev sheet25 : List ℤ
sheet25 =
    row (pos 17) (pos 10) (pos 11) (pos 0) (pos 0) (pos 0) (pos 0) (pos 0) (pos 0) (pos 0)
    ++ row (pos 21) (pos 0) (pos 0) (pos 0) (pos 0) (pos 0) (pos 0) (pos 0) (pos 0) (pos 0)
    ++ row (pos 22) (pos 1) (pos 10) (pos 0) (pos 0) (pos 0) (pos 0) (pos 0) (pos 0) (pos 0)
    ++ row (pos 22) (pos 1) (pos 11) (pos 0) (pos 0) (pos 0) (pos 0) (pos 0) (pos 0) (pos 0)
    ++ row (pos 23) (pos 10) (pos 9) (pos 5) (pos 0) (pos 60) (pos 0) none' none' (pos 0)
    ++ row (pos 23) (pos 11) (pos 9) (pos 6) (pos 60) (pos 120) (pos 0) none' none' (pos 0)

pub findings25 : findings sheet25 ≡ violation 9 8 1 75 ∷ []
unfolding keep any_of all_of count_of last insert_by sort_by each upsert fold collect first first_place any_below count_below cell is between is_none in_range in_class width count joint_available_ms contains covers hits is_working_time interval_fits joint_working half_up rounded divided_by share_of ceiling ceiling_share at_speed timed_duration activity_at activities find_activity activities_of overlap split requirement_at requirements named_for is_candidate usage_on timing_at timing piece_of duration_on needed_ms constraint_at constraints resource_at resources find_resource listed windows transport_to transport_between assignment_at assignments_below assignments assignments_for_activity_all span_at time_only_below time_only time_only_for_activity latest earliest task_completion_time task_at tasks find_task activity_span units uses check_known check_assignment check_assignment_at check_assignments piece_calendars check_resumable check_plain check_booking check_calendars usage cap_override base_of cap_of bookings_on total most taken load_of peak_of load_at peak first_booked booked_at booked_resources check_resource check_capacity first_on check_overlaps differing check_constraint check_constraint_at check_constraints check_deadline check_deadlines parts_of work_of two_works check_parts_of check_split check_activity_parts check_parts end_to_start runs_on_all by_part pieces_of check_pair check_pairs check_task check_precedence claim candidate_id lacking claims unaccompanied not_simultaneous check_piece_requirements bookings_by_piece check_activity_requirements check_requirements check_schedule findings known seen check_first check_span check_span_at check_unplaced check_time_only held_among not_held assigned_with is_held runs_on eq of_bits mul of_int div
findings25 = refl

-- constraints of each kind, in row order
abbrev sheet26 : List ℤ
sheet26 =
    row (pos 21) (pos 0) (pos 0) (pos 0) (pos 0) (pos 0) (pos 0) (pos 0) (pos 0) (pos 0)
    ++ row (pos 20) (pos 5) (pos 0) (pos 0) (pos 0) (pos 0) (pos 0) (pos 0) (pos 0) (pos 0)
    ++ row (pos 19) (pos 8) (pos 5) (pos 6) (pos 0) (pos 0) (pos 0) (pos 0) (pos 0) (pos 0)
    ++ row (pos 22) (pos 0) (pos 8) (pos 0) (pos 0) (pos 0) (pos 0) (pos 0) (pos 0) (pos 0)
    ++ row (pos 22) (pos 0) (pos 9) (pos 0) (pos 0) (pos 0) (pos 0) (pos 0) (pos 0) (pos 0)
    ++ row (pos 22) (pos 1) (pos 8) (pos 0) (pos 0) (pos 0) (pos 0) (pos 0) (pos 0) (pos 0)
    ++ row (pos 22) (pos 1) (pos 8) (pos 0) (pos 0) (pos 0) (pos 0) (pos 0) (pos 0) (pos 0)
    ++ row (pos 23) (pos 8) (pos 9) (pos 5) (pos 3) (pos 10) (pos 0) none' none' (pos 0)
    ++ row (pos 23) (pos 9) (pos 9) (pos 6) (pos 4) (pos 20) (pos 0) none' none' (pos 0)

pub findings26 : findings sheet26 ≡ violation 9 8 0 75 ∷ violation 9 2 5 90 ∷ violation 9 7 8 75 ∷ []
unfolding keep any_of all_of count_of last insert_by sort_by each upsert fold collect first first_place any_below count_below cell is between is_none in_range in_class width count joint_available_ms contains covers hits is_working_time interval_fits joint_working half_up rounded divided_by share_of ceiling ceiling_share at_speed timed_duration activity_at activities find_activity activities_of overlap split requirement_at requirements named_for is_candidate usage_on timing_at timing piece_of duration_on needed_ms constraint_at constraints resource_at resources find_resource listed windows transport_to transport_between assignment_at assignments_below assignments assignments_for_activity_all span_at time_only_below time_only time_only_for_activity latest earliest task_completion_time task_at tasks find_task activity_span units uses check_known check_assignment check_assignment_at check_assignments piece_calendars check_resumable check_plain check_booking check_calendars usage cap_override base_of cap_of bookings_on total most taken load_of peak_of load_at peak first_booked booked_at booked_resources check_resource check_capacity first_on check_overlaps differing check_constraint check_constraint_at check_constraints check_deadline check_deadlines parts_of work_of two_works check_parts_of check_split check_activity_parts check_parts end_to_start runs_on_all by_part pieces_of check_pair check_pairs check_task check_precedence claim candidate_id lacking claims unaccompanied not_simultaneous check_piece_requirements bookings_by_piece check_activity_requirements check_requirements check_schedule findings known seen check_first check_span check_span_at check_unplaced check_time_only held_among not_held assigned_with is_held runs_on eq of_bits mul of_int div
findings26 = refl

-- a finding of each check, in call order
abbrev sheet27 : List ℤ
sheet27 =
    row (pos 1) (pos 1) (pos 5) none' (pos 0) (pos 0) (pos 0) (pos 0) (pos 0) (pos 0)
    ++ row (pos 2) (pos 10) (pos 1) (pos 0) (pos 0) (pos 10) (pos 0) (pos 0) none' (pos 0)
    ++ row (pos 5) (pos 10) (pos 7) (pos 1) (pos 1) (pos 0) (pos 0) (pos 0) (pos 0) (pos 0)
    ++ row (pos 2) (pos 11) (pos 1) (pos 1) (pos 0) (pos 10) (pos 0) (pos 0) none' (pos 0)
    ++ row (pos 2) (pos 13) (pos 1) (pos 2) (pos 0) (pos 6) (pos 0) (pos 0) none' (pos 0)
    ++ row (pos 4) (pos 13) (pos 1) (pos 0) (pos 0) (pos 0) (pos 0) (pos 0) (pos 0) (pos 0)
    ++ row (pos 5) (pos 13) (pos 7) (pos 1) (pos 1) (pos 0) (pos 0) (pos 0) (pos 0) (pos 0)
    ++ row (pos 11) (pos 5) (pos 7) (pos 1) (pos 0) (pos 0) (pos 0) (pos 0) (pos 0) (pos 0)
    ++ row (pos 15) (pos 5) (pos 0) (pos 0) (pos 9) (pos 0) (pos 0) (pos 0) (pos 0) (pos 0)
    ++ row (pos 21) (pos 0) (pos 0) (pos 0) (pos 0) (pos 0) (pos 0) (pos 0) (pos 0) (pos 0)
    ++ row (pos 22) (pos 0) (pos 10) (pos 0) (pos 0) (pos 0) (pos 0) (pos 0) (pos 0) (pos 0)
    ++ row (pos 22) (pos 0) (pos 11) (pos 0) (pos 0) (pos 0) (pos 0) (pos 0) (pos 0) (pos 0)
    ++ row (pos 23) (pos 10) (pos 1) (pos 5) (pos 0) (pos 9) (pos 0) none' none' (pos 0)
    ++ row (pos 24) (pos 11) (pos 1) (pos 8) (pos 9) (pos 0) (pos 0) (pos 0) (pos 0) (pos 0)
    ++ row (pos 23) (pos 13) (pos 1) (pos 5) (pos 8) (pos 12) (pos 0) (pos 0) (pos 4) (pos 0)
    ++ row (pos 7) (pos 10) (pos 0) (pos 3) (pos 0) (pos 0) (pos 0) (pos 0) (pos 0) (pos 0)

pub findings27 : findings sheet27 ≡ violation 1 10 10 90 ∷ violation 2 10 11 90 ∷ violation 3 10 13 90 ∷ violation 4 5 5 70 ∷ violation 5 2 5 90 ∷ violation 6 4 5 85 ∷ violation 7 3 11 95 ∷ violation 7 3 13 95 ∷ violation 8 1 1 80 ∷ violation 9 8 0 75 ∷ []
unfolding keep any_of all_of count_of last insert_by sort_by each upsert fold collect first first_place any_below count_below cell is between is_none in_range in_class width count joint_available_ms contains covers hits is_working_time interval_fits joint_working half_up rounded divided_by share_of ceiling ceiling_share at_speed timed_duration activity_at activities find_activity activities_of overlap split requirement_at requirements named_for is_candidate usage_on timing_at timing piece_of duration_on needed_ms constraint_at constraints resource_at resources find_resource listed windows transport_to transport_between assignment_at assignments_below assignments assignments_for_activity_all span_at time_only_below time_only time_only_for_activity latest earliest task_completion_time task_at tasks find_task activity_span units uses check_known check_assignment check_assignment_at check_assignments piece_calendars check_resumable check_plain check_booking check_calendars usage cap_override base_of cap_of bookings_on total most taken load_of peak_of load_at peak first_booked booked_at booked_resources check_resource check_capacity first_on check_overlaps differing check_constraint check_constraint_at check_constraints check_deadline check_deadlines parts_of work_of two_works check_parts_of check_split check_activity_parts check_parts end_to_start runs_on_all by_part pieces_of check_pair check_pairs check_task check_precedence claim candidate_id lacking claims unaccompanied not_simultaneous check_piece_requirements bookings_by_piece check_activity_requirements check_requirements check_schedule findings known seen check_first check_span check_span_at check_unplaced check_time_only held_among not_held assigned_with is_held runs_on eq of_bits mul of_int div
findings27 = refl

-- three overloaded resources whose order by row, by id, by the time of the first booking and by the last booking differ; the first booking of 5 adds no load
abbrev sheet28 : List ℤ
sheet28 =
    row (pos 23) (pos 90) (pos 9) (pos 5) (pos 30) (pos 30) (pos 0) none' none' (pos 0)
    ++ row (pos 23) (pos 90) (pos 9) (pos 9) (pos 10) (pos 20) (pos 0) none' none' (pos 0)
    ++ row (pos 23) (pos 90) (pos 9) (pos 2) (pos 20) (pos 30) (pos 0) none' none' (pos 0)
    ++ row (pos 23) (pos 91) (pos 9) (pos 2) (pos 20) (pos 30) (pos 0) none' none' (pos 0)
    ++ row (pos 23) (pos 91) (pos 9) (pos 9) (pos 10) (pos 20) (pos 0) none' none' (pos 0)
    ++ row (pos 23) (pos 91) (pos 9) (pos 5) (pos 40) (pos 50) (pos 0) none' none' (pos 0)
    ++ row (pos 23) (pos 92) (pos 9) (pos 5) (pos 40) (pos 50) (pos 0) none' none' (pos 0)

pub findings28 : findings sheet28 ≡ violation 5 2 5 90 ∷ violation 5 2 9 90 ∷ violation 5 2 2 90 ∷ []
unfolding keep any_of all_of count_of last insert_by sort_by each upsert fold collect first first_place any_below count_below cell is between is_none in_range in_class width count joint_available_ms contains covers hits is_working_time interval_fits joint_working half_up rounded divided_by share_of ceiling ceiling_share at_speed timed_duration activity_at activities find_activity activities_of overlap split requirement_at requirements named_for is_candidate usage_on timing_at timing piece_of duration_on needed_ms constraint_at constraints resource_at resources find_resource listed windows transport_to transport_between assignment_at assignments_below assignments assignments_for_activity_all span_at time_only_below time_only time_only_for_activity latest earliest task_completion_time task_at tasks find_task activity_span units uses check_known check_assignment check_assignment_at check_assignments piece_calendars check_resumable check_plain check_booking check_calendars usage cap_override base_of cap_of bookings_on total most taken load_of peak_of load_at peak first_booked booked_at booked_resources check_resource check_capacity first_on check_overlaps differing check_constraint check_constraint_at check_constraints check_deadline check_deadlines parts_of work_of two_works check_parts_of check_split check_activity_parts check_parts end_to_start runs_on_all by_part pieces_of check_pair check_pairs check_task check_precedence claim candidate_id lacking claims unaccompanied not_simultaneous check_piece_requirements bookings_by_piece check_activity_requirements check_requirements check_schedule findings known seen check_first check_span check_span_at check_unplaced check_time_only held_among not_held assigned_with is_held runs_on eq of_bits mul of_int div
findings28 = refl
