-- The typed sheet: each cell read by the class of its column, as an instant, a number, or nothing. All that the checks are defined by is read from it.
-- T is the type of instants: nothing is known of it but its clock, so that no definition can look at an instant by itself. Assumes nothing.
use Rattle.std.specs.Prelude.{ℕ, Bool, cond, List, [], ◌∷◌, eqb, ℤ, pos, negsuc}
use Rattle.std.specs.Prelude.{Option, None, Some}
use Rattle.loops.specs.Numbers.{to_nat}
use Rattle.loops.specs.Range.{collect}
use Rattle.rows.specs.declared.Class.{Class}
use Rattle.rows.specs.declared.Class.TheVariants.{Blank, Instant, OptionalNumber, OptionalInstant, OptionalDuration}
use Rattle.rows.specs.Table.{class_of}
use Rattle.rows.specs.Ranges.{is_none}
use Rattle.rows.specs.Cells.{row_count, cell, num}

pub data Cell (T : Type 0) : Type 0 where
  number : ℤ → Cell T
  instant : T → Cell T
  nothing : Cell T

-- a cell of a class; in an accepted sheet an instant is never negative, and an optional one is so only where it is none
abbrev pub read : Class → ℤ → Cell ℤ
read Instant x = instant (pos (to_nat x))
read OptionalInstant (pos x) = instant (pos x)
read OptionalInstant (negsuc x) = nothing
read OptionalNumber x = cond (is_none x) nothing (number x)
read OptionalDuration x = cond (is_none x) nothing (number x)
read Blank x = nothing
read _ x = number x

pub record Sheet (T : Type 0) : Type 0 where
  -- how many rows
  pub count : ℕ
  -- the cell of a row and a column
  pub cell : ℕ → ℕ → Cell T

-- the sheet that is lent as rows
abbrev pub sheet : List ℤ → Sheet ℤ
sheet rows = record { count = row_count rows; cell = λ k c. read (class_of (num rows k 0) c) (cell rows k c) }

-- ---- what a cell holds

module _ {T : Type 0} where
  -- Each row is read by the columns of its kind (rows/specs/Table), instants by `as_instant` and all else by the other three: so no definition asks
  -- an instant for a number, and the zeros here stand for nothing that is ever asked.
  abbrev pub as_int : Cell T → ℤ
  as_int (number x) = x
  as_int (instant x) = pos 0
  as_int nothing = pos 0

  -- a number that is never negative in an accepted sheet
  abbrev pub as_num : Cell T → ℕ
  as_num x = to_nat (as_int x)

  abbrev pub as_flag : Cell T → Bool
  as_flag x = eqb (as_num x) 1

  abbrev pub as_instant : Cell T → Option T
  as_instant (number x) = None
  as_instant (instant x) = Some x
  as_instant nothing = None

  -- what f makes of two instants, where both are there
  abbrev pub with2 : {A : Type 0} → Option T → Option T → (T → T → A) → List A
  with2 None b f = []
  with2 (Some a) None f = []
  with2 (Some a) (Some b) f = f a b ∷ []

-- ---- rows

module _ {T : Type 0} (s : Sheet T) where
  -- row k is of kind x
  abbrev pub is_kind : ℕ → ℕ → Bool
  is_kind x k = eqb (as_num (s.cell k 0)) x

  -- a row of kind x as f reads it; nothing of any other row
  abbrev pub row_at : {A : Type 0} → ℕ → (ℕ → List A) → ℕ → List A
  row_at x f k = cond (is_kind x k) (f k) []

  -- the rows of kind x, as f reads them
  abbrev pub rows_of_kind : {A : Type 0} → ℕ → (ℕ → List A) → List A
  rows_of_kind x f = collect (row_at x f) s.count

  -- row k by its columns, from the first on: f gives them names
  abbrev pub columns1 : {A : Type 0} → ℕ → (Cell T → A) → A
  columns1 k f = f (s.cell k 1)

  abbrev pub columns2 : {A : Type 0} → ℕ → (Cell T → Cell T → A) → A
  columns2 k f = columns1 k f (s.cell k 2)

  abbrev pub columns3 : {A : Type 0} → ℕ → (Cell T → Cell T → Cell T → A) → A
  columns3 k f = columns2 k f (s.cell k 3)

  abbrev pub columns4 : {A : Type 0} → ℕ → (Cell T → Cell T → Cell T → Cell T → A) → A
  columns4 k f = columns3 k f (s.cell k 4)

  abbrev pub columns5 : {A : Type 0} → ℕ → (Cell T → Cell T → Cell T → Cell T → Cell T → A) → A
  columns5 k f = columns4 k f (s.cell k 5)

  abbrev pub columns8 : {A : Type 0} → ℕ → (Cell T → Cell T → Cell T → Cell T → Cell T → Cell T → Cell T → Cell T → A) → A
  columns8 k f = columns5 k f (s.cell k 6) (s.cell k 7) (s.cell k 8)
