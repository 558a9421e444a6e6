-- Load: what the bookings of a resource take of it, its limit, and the resources that are booked. Beside it: `check_capacity` of scheduler/feasibility.rs,
-- whose names stand in backquotes. An instant is anything that can be compared.
use Rattle.std.specs.Prelude.{ℕ, Bool, cond, not, ◌&&◌, List, [], eqb, ℤ, pos, Option}
use Rattle.loops.specs.Lists.{given, any_of, last, option, each}
use Rattle.loops.specs.Numbers.{max_z, min_z}
use Rattle.loops.specs.Range.{collect}
use Rattle.loops.specs.Sums.{total, most}
use Rattle.calendar.specs.Clock.{Clock}
use Rattle.model.specs.Sheet.{Sheet}
use Rattle.model.specs.Resource.{find_resource}
use Rattle.model.specs.Activity.{find_activity, usage_on}
use Rattle.model.specs.Constraint.{Constraint, precedence, capacity, time_window, no_overlap, synchronize, constraints}
use Rattle.model.specs.Schedule.{Assignment, assignment_at, assignments_below, assignments}

-- ---- any bookings

-- what a booking takes of its resource, and from when to when
pub record Booking (T : Type 0) : Type 0 where
  pub start : T
  pub end : T
  pub units : ℕ

module _ {T : Type 0} (before : T → T → Bool) where
  -- the booking holds the instant: it starts at or before it and ends after it
  abbrev pub holds : T → Booking T → Bool
  holds t b = not (before t b.start) && before t b.end

  -- what it takes at the instant
  unfoldable pub taken : T → Booking T → ℕ
  taken t b = cond (holds t b) b.units 0

  -- the load at an instant: the units of the bookings that hold it
  unfoldable pub load_of : List (Booking T) → T → ℕ
  load_of l t = total (taken t) l

  -- `peak`: the greatest load at a start; load only rises at a start, so that the starts are enough
  unfoldable pub peak_of : List (Booking T) → ℕ
  peak_of l = most (λ b. load_of l b.start) l

-- ---- the bookings of a sheet

module _ {T : Type 0} (s : Sheet T) where
  -- `usage`: what a booking takes of its resource; one unit, where its activity or its resource is unknown
  unfoldable pub usage : Assignment T → ℕ
  usage a = option (find_activity s a.activity) 1 λ activity. option (find_resource s a.resource) 1 λ r. usage_on s activity r

  abbrev pub booking_of : Assignment T → Booking T
  booking_of a = record { start = a.start; end = a.end; units = usage a }

  -- `by_resource`: the bookings of a resource
  unfoldable pub bookings_on : ℕ → List (Booking T)
  bookings_on x = each (λ a. given (eqb a.resource x) (booking_of a)) (assignments s)

  -- ---- the limit of a resource

  abbrev pub capacity_of : ℕ → Constraint T → List ℤ
  capacity_of x (precedence a b c) = []
  capacity_of x (capacity r c) = given (eqb r x) c
  capacity_of x (time_window a b c) = []
  capacity_of x (no_overlap r) = []
  capacity_of x synchronize = []

  -- `cap_override`: the last capacity constraint of the resource
  unfoldable pub cap_override : ℕ → Option ℤ
  cap_override x = last (each (capacity_of x) (constraints s))

  -- `base`: its capacity, at least 1; 1 for an unknown resource
  unfoldable pub base_of : ℕ → ℤ
  base_of x = option (find_resource s x) (pos 1) (λ r. max_z r.capacity (pos 1))

  -- `cap`
  unfoldable pub cap_of : ℕ → ℤ
  cap_of x = option (cap_override x) (base_of x) (λ c. min_z (base_of x) c)

  -- ---- the booked resources

  -- the resource of a booking, unless an earlier one is of it
  unfoldable pub first_booked : List (Assignment T) → Assignment T → List ℕ
  first_booked earlier a = given (not (any_of (λ e. eqb e.resource a.resource) earlier)) a.resource

  unfoldable pub booked_at : ℕ → List ℕ
  booked_at k = each (first_booked (assignments_below s k)) (assignment_at s k)

  -- each booked resource once, in the order of their first bookings
  unfoldable pub booked_resources : List ℕ
  booked_resources = collect booked_at s.count

module _ {T : Type 0} (K : Clock T) (s : Sheet T) where
  -- the load of the resource at an instant
  unfoldable pub load_at : ℕ → T → ℕ
  load_at x t = load_of K.before (bookings_on s x) t

  unfoldable pub peak : ℕ → ℕ
  peak x = peak_of K.before (bookings_on s x)
