-- The 24 kinds of rows and their columns. Assumes nothing.
use Rattle.std.specs.Prelude.{ℕ, zero, suc, List, [], ◌∷◌, length, get_or}
use Rattle.rows.specs.declared.Class.{Class}
use Rattle.rows.specs.declared.Class.TheVariants.{Blank, RowKind, Id, Number, Count, Instant, Duration, SignedTime, Flag, ShareBits, SpeedBits, OptionalNumber, OptionalInstant, OptionalDuration, TaskId, ActivityId, ResourceId, RequirementPlace, ConstraintPlace}

-- the columns of the kinds 0 (there is none), 1, 2 .., from column 1 on
abbrev pub columns : List (List Class)
columns =
    []
    ∷ (Id ∷ OptionalInstant ∷ OptionalInstant ∷ [])  -- 1 task: id, deadline, release
    ∷ (Id ∷ TaskId ∷ Number ∷ Duration ∷ Duration ∷ Duration ∷ Flag ∷ OptionalInstant ∷ [])  -- 2 activity: id, task, sequence, setup, process, teardown, resumable, release
    ∷ (ActivityId ∷ ShareBits ∷ SignedTime ∷ [])  -- 3 overlap: activity, start_after, finish lag
    ∷ (ActivityId ∷ Number ∷ Duration ∷ Duration ∷ [])  -- 4 split: activity, max parts, min part, overhead
    ∷ (ActivityId ∷ Id ∷ Number ∷ Count ∷ [])  -- 5 requirement: activity, type, quantity, usage
    ∷ (ActivityId ∷ RequirementPlace ∷ Id ∷ [])  -- 6 candidate: activity, requirement place, resource
    ∷ (ActivityId ∷ RequirementPlace ∷ Id ∷ [])  -- 7 wanted skill: activity, requirement place, skill
    ∷ (ActivityId ∷ Id ∷ [])  -- 8 predecessor: activity, activity
    ∷ (ActivityId ∷ Id ∷ SpeedBits ∷ [])  -- 9 speed: activity, resource, speed
    ∷ (ActivityId ∷ Id ∷ Duration ∷ Duration ∷ Duration ∷ [])  -- 10 fixed timing: activity, resource, setup, process, teardown
    ∷ (Id ∷ Id ∷ Number ∷ [])  -- 11 resource: id, type, capacity
    ∷ (ResourceId ∷ Id ∷ [])  -- 12 skill: resource, skill
    ∷ (ResourceId ∷ Id ∷ [])  -- 13 companion: resource, resource
    ∷ (ResourceId ∷ Id ∷ Duration ∷ [])  -- 14 transport: resource, resource, time
    ∷ (ResourceId ∷ Flag ∷ Instant ∷ Instant ∷ [])  -- 15 resource window: resource, closed, start, end
    ∷ (ActivityId ∷ Flag ∷ Instant ∷ Instant ∷ [])  -- 16 activity window: activity, closed, start, end
    ∷ (Id ∷ Id ∷ SignedTime ∷ [])  -- 17 precedence: before, after, delay
    ∷ (Id ∷ Number ∷ [])  -- 18 capacity: resource, max
    ∷ (Id ∷ Instant ∷ Instant ∷ [])  -- 19 time window: activity, start, end
    ∷ (Id ∷ [])  -- 20 no-overlap: resource
    ∷ ([])  -- 21 synchronize
    ∷ (ConstraintPlace ∷ Id ∷ [])  -- 22 member: constraint place, activity
    ∷ (Id ∷ Id ∷ Id ∷ Instant ∷ Instant ∷ Duration ∷ OptionalNumber ∷ OptionalDuration ∷ [])  -- 23 booking: activity, task, resource, start, end, setup, part index, part work
    ∷ (Id ∷ Id ∷ Instant ∷ Instant ∷ [])  -- 24 time-only span: activity, task, start, end
    ∷ []

-- the class of a column in a row of a kind; what comes after a kind's columns is blank
abbrev pub class_of : ℕ → ℕ → Class
class_of kind zero = RowKind
class_of kind (suc c) = get_or (get_or columns kind []) c Blank

-- how many columns a kind has
unfoldable pub width : ℕ → ℕ
width kind = length (get_or columns kind [])
