-- Refusals 1 to 5: which sheets are refused, with what number, at what place, and in what order. Assumes nothing.
use Rattle.std.specs.Prelude.{ℕ, ◌%◌, Bool, true, false, not, ◌&&◌, ◌||◌, List, [], ◌∷◌, ℤ, length, eqb, ltb, leb}
use Rattle.std.specs.Bool.{beq}
use Rattle.std.specs.Prelude.{Option, None, Some}
use Rattle.loops.specs.Lists.{all_of, among}
use Rattle.loops.specs.Search.{or_else, first, any_below}
use Rattle.refusals.specs.Refusals.{refuse}
use Rattle.refusals.specs.declared.Reason.TheVariants.{Misshapen, UnknownKind, OutOfRange, Stray, Twice}
use Rattle.refusals.specs.declared.Refusal.{Refusal}
use Rattle.rows.specs.Cells.{row_count, cell, num, is}
use Rattle.rows.specs.declared.Class.{Class}
use Rattle.rows.specs.declared.Class.TheVariants.{TaskId, ActivityId, ResourceId, RequirementPlace, ConstraintPlace}
use Rattle.rows.specs.Table.{class_of}
use Rattle.rows.specs.Ranges.{is_none, in_class}
use Rattle.sheet.specs.Places.{task_place, activity_place, resource_place, requirement_place, constraint_place}

-- ---- 1

-- so many numbers are not rows of ten, or too many
unfoldable pub misshapen : ℕ → Bool
misshapen n = not (eqb (n % 10) 0) || ltb 8000 n

-- ---- 2 and 3: a row by itself

unfoldable pub known_kind : List ℤ → ℕ → Bool
known_kind rows k = leb 1 (num rows k 0) && leb (num rows k 0) 24

-- column c of row k is outside its class; past the columns of the kind only 0 is in the class
unfoldable pub bad_cell : List ℤ → ℕ → ℕ → Bool
bad_cell rows k c = not (in_class (class_of (num rows k 0) c) (cell rows k c))

-- a booking with a part index and no part work, or the other way round
unfoldable pub half_part : List ℤ → ℕ → Bool
half_part rows k = is rows k 0 23 && not (beq (is_none (cell rows k 7)) (is_none (cell rows k 8)))

unfoldable pub out_of_range : List ℤ → ℕ → Bool
out_of_range rows k = any_below (bad_cell rows k) 10 || half_part rows k

-- ---- 4: a column names an owner that is not in the sheet

abbrev pub is_absent : Option ℕ → Bool
is_absent None = true
is_absent (Some k) = false

-- a member's owner is of kind 20 or 21
unfoldable pub has_members : List ℤ → Option ℕ → Bool
has_members rows None = false
has_members rows (Some k) = leb 20 (num rows k 0) && leb (num rows k 0) 21

-- what column c of row k names by its class is absent
unfoldable pub lacks : Class → List ℤ → ℕ → ℕ → Bool
lacks TaskId rows k c = is_absent (task_place rows (num rows k c))
lacks ActivityId rows k c = is_absent (activity_place rows (num rows k c))
lacks ResourceId rows k c = is_absent (resource_place rows (num rows k c))
lacks RequirementPlace rows k c = is_absent (requirement_place rows (num rows k 1) (num rows k c))
lacks ConstraintPlace rows k c = not (has_members rows (constraint_place rows (num rows k c)))
lacks _ rows k c = false

unfoldable pub absent_at : List ℤ → ℕ → ℕ → Bool
absent_at rows k c = lacks (class_of (num rows k 0) c) rows k c

unfoldable pub unowned : List ℤ → ℕ → Bool
unowned rows k = any_below (absent_at rows k) 10

-- ---- 5: a row that repeats an earlier one

-- rows k and j are of these kinds, and have the same numbers in these columns
abbrev pub agree : List ℤ → ℕ → ℕ → List ℕ → List ℕ → Bool
agree rows k j kinds columns =
    among (num rows k 0) kinds && (among (num rows j 0) kinds && all_of (λ c. eqb (num rows j c) (num rows k c)) columns)

-- row k repeats row j. (It is asked of rows that refusal 3 lets pass: no number in these columns is negative, and read as 0.)
unfoldable pub repeats : List ℤ → ℕ → ℕ → Bool
repeats rows k j =
    agree rows k j (1 ∷ []) (1 ∷ [])  -- a task id
    || agree rows k j (2 ∷ []) (1 ∷ [])  -- an activity id
    || agree rows k j (11 ∷ []) (1 ∷ [])  -- a resource id
    || agree rows k j (3 ∷ []) (1 ∷ [])  -- a second overlap of an activity
    || agree rows k j (4 ∷ []) (1 ∷ [])  -- a second split of an activity
    || agree rows k j (9 ∷ 10 ∷ []) (1 ∷ 2 ∷ [])  -- a second timing, by speed or fixed, of an activity and a resource
    || agree rows k j (14 ∷ []) (1 ∷ 2 ∷ [])  -- a second transport from one resource to another

unfoldable pub repeated : List ℤ → ℕ → Bool
repeated rows k = any_below (repeats rows k) k

-- ---- the order: 1; row by row 2 before 3; 4 over all rows; 5 over all rows

unfoldable pub column_fault : List ℤ → ℕ → Option Refusal
column_fault rows k = or_else (refuse (not (known_kind rows k)) UnknownKind k) (refuse (out_of_range rows k) OutOfRange k)

unfoldable pub owner_fault : List ℤ → ℕ → Option Refusal
owner_fault rows k = refuse (unowned rows k) Stray k

unfoldable pub repeat_fault : List ℤ → ℕ → Option Refusal
repeat_fault rows k = refuse (repeated rows k) Twice k

unfoldable pub refusal_of : List ℤ → Option Refusal
refusal_of rows =
    or_else (refuse (misshapen (length rows)) Misshapen 0)
    (or_else (first (column_fault rows) (row_count rows))
    (or_else (first (owner_fault rows) (row_count rows)) (first (repeat_fault rows) (row_count rows))))
