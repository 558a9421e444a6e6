-- The row that each row belongs to, and the rows that belong to a row, with the tables that hold them. These are filled once, and the checks walk
-- along them in place of all rows. Assumes nothing.
use Rattle.std.specs.Prelude.{ℕ, ◌+◌, ◌*◌, ◌%◌, ◌<◌, ◌≤◌, ◌≡◌, Bool, cond, ◌&&◌, List, ℤ, get_or, eqb}
use Rattle.std.specs.Prelude.{Option, None, Some}
use Rattle.loops.specs.inner.Chain.{Links}
use Rattle.rows.specs.declared.Kind.{Kind}
use Rattle.rows.specs.declared.Kind.TheVariants.{Activity, Overlap, Split, Requirement, Candidate, WantedSkill, Predecessor, Speed, FixedTiming, Skill, Companion, Transport, ResourceWindow, ActivityWindow, Member, Booking, TimeOnlySpan}
use Rattle.rows.specs.Kinds.{kind_of}
use Rattle.rows.specs.Cells.{row_count, num, is}
use Rattle.sheet.specs.Places.{task_place, activity_place, resource_place, requirement_place, constraint_place}
use Rattle.sheet.specs.inner.Index.{or_end}
use Rattle.owners.specs.declared.Owner.{Owner}
use Rattle.owners.specs.declared.RowLinks.{RowLinks}
use Rattle.owners.specs.declared.Owner.TheVariants.{TaskRow, ActivityRow, RequirementRow, ResourceRow, ConstraintRow}

-- What a row of a kind belongs to: what the last * column of the kind names. Bookings and time-only spans belong to their activity, if it is in the sheet.
abbrev pub owner_of_kind : Option Kind → Option Owner
owner_of_kind (Some Activity) = Some TaskRow
owner_of_kind (Some Overlap) = Some ActivityRow
owner_of_kind (Some Split) = Some ActivityRow
owner_of_kind (Some Requirement) = Some ActivityRow
owner_of_kind (Some Candidate) = Some RequirementRow
owner_of_kind (Some WantedSkill) = Some RequirementRow
owner_of_kind (Some Predecessor) = Some ActivityRow
owner_of_kind (Some Speed) = Some ActivityRow
owner_of_kind (Some FixedTiming) = Some ActivityRow
owner_of_kind (Some Skill) = Some ResourceRow
owner_of_kind (Some Companion) = Some ResourceRow
owner_of_kind (Some Transport) = Some ResourceRow
owner_of_kind (Some ResourceWindow) = Some ResourceRow
owner_of_kind (Some ActivityWindow) = Some ActivityRow
owner_of_kind (Some Member) = Some ConstraintRow
owner_of_kind (Some Booking) = Some ActivityRow
owner_of_kind (Some TimeOnlySpan) = Some ActivityRow
owner_of_kind _ = None

-- the same, by the number of the kind
unfoldable pub owner_kind : ℕ → Option Owner
owner_kind number = owner_of_kind (kind_of number)

-- the row that the columns of row k name as such an owner
unfoldable pub owner_of : List ℤ → Option Owner → ℕ → Option ℕ
owner_of rows (Some TaskRow) k = task_place rows (num rows k 2)
owner_of rows (Some ActivityRow) k = activity_place rows (num rows k 1)
owner_of rows (Some RequirementRow) k = requirement_place rows (num rows k 1) (num rows k 2)
owner_of rows (Some ResourceRow) k = resource_place rows (num rows k 1)
owner_of rows (Some ConstraintRow) k = constraint_place rows (num rows k 1)
owner_of rows None k = None

-- the row that row k belongs to
unfoldable pub owner_place : List ℤ → ℕ → Option ℕ
owner_place rows k = owner_of rows (owner_kind (num rows k 0)) k

unfoldable pub own_place : List ℤ → ℕ → ℕ
own_place rows k = or_end rows (owner_place rows k)

-- the row of a booking's resource
unfoldable pub res_place : List ℤ → ℕ → ℕ
res_place rows k = cond (is rows k 0 23) (or_end rows (resource_place rows (num rows k 3))) (row_count rows)

-- row k is of that kind and belongs to row o
unfoldable pub owned_by : List ℤ → ℕ → ℕ → ℕ → Bool
owned_by rows o kind k = is rows k 0 kind && eqb (own_place rows k) o

-- ---- what the tables hold

-- the row of constraint place m at m
pub record Numbered (rows : List ℤ) (t : List ℕ) : Type 0 where
  pub short : row_count rows ≤ 800
  pub number : (m : ℕ) → m < 800 → get_or t m 0 ≡ or_end rows (constraint_place rows m)

-- at k the row that row k belongs to and the row of its resource; for the k from the number of rows up to 800, that number
pub record Linked (rows : List ℤ) (t : RowLinks) : Type 0 where
  pub short : row_count rows ≤ 800
  pub own : (k : ℕ) → k < row_count rows → get_or t.owners k 0 ≡ own_place rows k
  pub res : (k : ℕ) → k < row_count rows → get_or t.resources k 0 ≡ res_place rows k
  pub past : (k : ℕ) → row_count rows ≤ k → k < 800 → (get_or t.owners k 0 ≡ row_count rows) × (get_or t.resources k 0 ≡ row_count rows)

-- the last digit of the kind keeps the kinds of one owner apart, but for 3 and 23, and 4 and 24
unfoldable pub owned_key : List ℤ → ℕ → ℕ
owned_key rows k = own_place rows k * 10 + num rows k 0 % 10

-- a chain for each owner and last digit of a kind
pub record Owned (rows : List ℤ) (t : List ℕ) : Type 0 where
  pub short : row_count rows ≤ 800
  pub links : Links (owned_key rows) 8010 0 (row_count rows) t
