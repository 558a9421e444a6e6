-- The bookings of a no-overlap constraint's members, by rows, and what is told of each two. Assumes nothing.
use Rattle.std.specs.Prelude.{ℕ, Bool, ◌&&◌, List, [], ◌∷◌, ◌++◌, ℤ, pos}
use Rattle.loops.specs.Lists.{given, each, option}
use Rattle.loops.specs.Search.{first_place}
use Rattle.chains.specs.Places.{places}
use Rattle.calendar.specs.Clock.{clock}
use Rattle.rows.specs.Cells.{row_count, num, is}
use Rattle.sheet.specs.Places.{named}
use Rattle.findings.specs.declared.Violation.{Violation}

-- row k is a booking of the activity on the resource
unfoldable pub booked_on : List ℤ → ℕ → ℕ → ℕ → Bool
booked_on rows activity resource k = is rows k 0 23 && (is rows k 1 activity && is rows k 3 resource)

-- the row of the first booking on the resource of the member in row k, if it has one
unfoldable pub booking_of : List ℤ → ℕ → ℕ → List ℕ
booking_of rows resource k = option (first_place (booked_on rows (num rows k 2) resource) (row_count rows)) [] (λ b. b ∷ [])

-- those of the members of the constraint at that place
unfoldable pub bookings_of : List ℤ → ℕ → ℕ → List ℕ
bookings_of rows place resource = each (booking_of rows resource) (places (named rows 22 place) (row_count rows))

-- the bookings of rows a and b overlap
unfoldable pub overlap_at : List ℤ → ℕ → ℕ → Bool
overlap_at rows a b =
    clock.before (pos (num rows a 4)) (pos (num rows b 5)) && clock.before (pos (num rows b 4)) (pos (num rows a 5))

module _ (rows : List ℤ) (f : Violation) where
  -- what is told of them
  abbrev pub overlap_of : ℕ → ℕ → List Violation
  overlap_of a b = given (overlap_at rows a b) f

  -- of each two
  unfoldable pub pairs_of : List ℕ → List Violation
  pairs_of [] = []
  pairs_of (a ∷ l) = each (overlap_of a) l ++ pairs_of l
