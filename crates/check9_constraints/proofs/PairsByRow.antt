-- The pairs of a no-overlap constraint's bookings by the rows of its members: each booking with that of each later member, and with no other. Assumes nothing.
use Prim.Native.Nat.{ℕ, zero, suc, ◌<◌, ◌≤◌}
use mathlib.Core.Path.{◌≡◌, refl, ap, ap₂, sym, ◌∙◌}
use mathlib.Core.Bool.{Bool, true, false, cond, ◌&&◌}
use mathlib.Core.List.{List, [], ◌∷◌, ◌++◌, append-nil}
use Rattle.std.specs.Prelude.{Option, None, Some}
use native.Mathlib.Omega.{arith}
use native.Mathlib.Decide.{dec_lt}
use lib.Dec.{ltb}
use lib.IntN.{ℤ}
use borrow.Author.Tests.{lt-ltb, le-ltb}
use Rattle.loops.specs.Lists.{given, each, option}
use Rattle.loops.specs.Range.{collect}
use Rattle.loops.specs.Search.{first_place}
use Rattle.loops.proofs.PartLaws.{collect_nothing}
use Rattle.loops.proofs.ListLaws.{each_collect}
use Rattle.loops.proofs.RangeLaws.{collect_ext, collect_front}
use Rattle.chains.specs.Places.{places}
use Rattle.rows.specs.Cells.{row_count, num, is}
use Rattle.sheet.specs.Places.{named}
use Rattle.findings.specs.declared.Violation.{Violation}
use Rattle.model.specs.Schedule.{capacity_exceeded}
use Rattle.check9_constraints.specs.inner.Bookings.{booked_on, booking_of, bookings_of, overlap_at, overlap_of, pairs_of}

-- the row of the first booking on the resource of the member in row k, if row k is a member of the constraint and has one
unfoldable pub member_booking : List ℤ → ℕ → ℕ → ℕ → Option ℕ
member_booking rows place resource k =
    cond (is rows k 0 22 && is rows k 1 place) (first_place (booked_on rows (num rows k 2) resource) (row_count rows)) None

module _ (rows : List ℤ) (place resource : ℕ) where
  -- the member of row k stands after that of row j, and has a booking that overlaps that one's, of row a
  unfoldable pub pair_at : ℕ → ℕ → ℕ → Bool
  pair_at a j k = ltb j k && option (member_booking rows place resource k) false (overlap_at rows a)

  -- the findings of the member of row j, if it has a booking, with each one after it
  unfoldable pub pairs_at : ℕ → List Violation
  pairs_at j = option (member_booking rows place resource j) [] (λ a. collect (λ k. given (pair_at a j k) (capacity_exceeded 9 resource)) (row_count rows))

-- a member is paired with none before it, nor with itself
pub pair_past : (rows : List ℤ) (p r a j k : ℕ) → k ≤ j → false ≡ pair_at rows p r a j k
unfolding pair_at
pair_past rows p r a j k l = rw (le-ltb j k l)

-- ---- that these are the pairs of the list of bookings

ltb_suc : (a b : ℕ) → ltb (suc a) (suc b) ≡ ltb a b
ltb_suc a b = go (dec_lt a b)
  where
    go : Dec (a < b) → ltb (suc a) (suc b) ≡ ltb a b
    go (yes h) = lt-ltb (suc a) (suc b) (omega arith) ∙ sym (lt-ltb a b h)
    go (no h) = le-ltb (suc a) (suc b) (omega arith) ∙ sym (le-ltb a b (omega arith))

abbrev one : Option ℕ → List ℕ
one x = option x [] (λ a. a ∷ [])

module _ (rows : List ℤ) (f : Violation) where
  abbrev both : Option ℕ → Option ℕ → List Violation
  both None y = []
  both (Some a) None = []
  both (Some a) (Some b) = overlap_of rows f a b

  both_one : (a : ℕ) (y : Option ℕ) → each (overlap_of rows f a) (one y) ≡ both (Some a) y
  unfolding each
  both_one a None = refl
  both_one a (Some b) = append-nil (overlap_of rows f a b)

  -- the findings of the first with all others, and those of the others
  first_apart : (x : Option ℕ) (l : List ℕ) → pairs_of rows f (one x ++ l) ≡ option x [] (λ a. each (overlap_of rows f a) l) ++ pairs_of rows f l
  unfolding pairs_of
  first_apart None l = refl
  first_apart (Some a) l = refl

  with_first : (x : Option ℕ) (o : ℕ → Option ℕ) (m : ℕ)
      → option x [] (λ a. each (overlap_of rows f a) (collect (λ k. one (o k)) m)) ≡ collect (λ k. both x (o k)) m
  with_first None o m = sym (collect_nothing _ (λ k. refl) m)
  with_first (Some a) o m = each_collect _ (λ k. one (o k)) m ∙ collect_ext _ _ m (λ k l. both_one a (o k))

  abbrev after : (ℕ → Option ℕ) → ℕ → ℕ → List Violation
  after o j k = cond (ltb j k) (both (o j) (o k)) []

  after_first : (o : ℕ → Option ℕ) (m : ℕ) → collect (after o 0) (suc m) ≡ collect (λ k. both (o 0) (o (suc k))) m
  after_first o m = collect_front (after o 0) m ∙ collect_ext _ _ m (λ k l. rw (lt-ltb 0 (suc k) (omega arith)))

  after_next : (o : ℕ → Option ℕ) (m j : ℕ) → collect (after o (suc j)) (suc m) ≡ collect (after (λ k. o (suc k)) j) m
  after_next o m j = collect_front (after o (suc j)) m ∙ rw (le-ltb (suc j) 0 (omega arith)) (collect_ext _ _ m (λ k l. rw (ltb_suc j k)))

  paired : (n : ℕ) (o : ℕ → Option ℕ) → pairs_of rows f (collect (λ k. one (o k)) n) ≡ collect (λ j. collect (after o j) n) n
  unfolding collect pairs_of
  paired zero o = refl
  paired (suc m) o =
      ap (pairs_of rows f) (collect_front (λ k. one (o k)) m)
      ∙ first_apart (o 0) (collect (λ k. one (o (suc k))) m)
      ∙ ap₂ ◌++◌ (with_first (o 0) (λ k. o (suc k)) m) (paired m (λ k. o (suc k)))
      ∙ sym
      (collect_front (λ j. collect (after o j) (suc m)) m
      ∙ ap₂ ◌++◌ (after_first o m) (collect_ext _ _ m (λ j l. after_next o m j)))

module _ (rows : List ℤ) (p r : ℕ) where
  booking_at : (k : ℕ) → each (booking_of rows r) (given (named rows 22 p k) k) ≡ one (member_booking rows p r k)
  unfolding each named booking_of member_booking
  booking_at k = go (is rows k 0 22 && is rows k 1 p)
    where
      go : (b : Bool) → each (booking_of rows r) (given b k) ≡ one (cond b (first_place (booked_on rows (num rows k 2) r) (row_count rows)) None)
      go true = append-nil (one (first_place (booked_on rows (num rows k 2) r) (row_count rows)))
      go false = refl

  bookings_by_row : bookings_of rows p r ≡ collect (λ k. one (member_booking rows p r k)) (row_count rows)
  unfolding bookings_of places
  bookings_by_row = each_collect (booking_of rows r) (λ k. given (named rows 22 p k) k) (row_count rows) ∙ collect_ext _ _ (row_count rows) (λ k l. booking_at k)

  abbrev finding : Violation
  finding = capacity_exceeded 9 r

  nothing_there : (j k : ℕ) → ◌≡◌ {A = List Violation} (cond (ltb j k) [] []) []
  nothing_there j k = go (ltb j k)
    where
      go : (b : Bool) → ◌≡◌ {A = List Violation} (cond b [] []) []
      go true = refl
      go false = refl

  pair_at_lem : (b : Bool) (a : ℕ) (y : Option ℕ) → given (b && option y false (overlap_at rows a)) finding ≡ cond b (both rows finding (Some a) y) []
  pair_at_lem false a y = refl
  pair_at_lem true a None = refl
  pair_at_lem true a (Some b) = refl

  pairs_at_lem : (j : ℕ) → pairs_at rows p r j ≡ collect (after rows finding (member_booking rows p r) j) (row_count rows)
  unfolding pairs_at pair_at
  pairs_at_lem j = go (member_booking rows p r j)
    where
      go : (x : Option ℕ)
          → option x [] (λ a. collect (λ k. given (ltb j k && option (member_booking rows p r k) false (overlap_at rows a)) finding) (row_count rows))
          ≡ collect (λ k. cond (ltb j k) (both rows finding x (member_booking rows p r k)) []) (row_count rows)
      go (Some a) = collect_ext _ _ (row_count rows) (λ k l. pair_at_lem (ltb j k) a (member_booking rows p r k))
      go None = sym (collect_nothing _ (λ k. nothing_there j k) (row_count rows))

  pub pairs_by_row : pairs_of rows (capacity_exceeded 9 r) (bookings_of rows p r) ≡ collect (pairs_at rows p r) (row_count rows)
  pairs_by_row =
      ap (pairs_of rows finding) bookings_by_row
      ∙ paired rows finding (row_count rows) (member_booking rows p r)
      ∙ sym (collect_ext _ _ (row_count rows) (λ j l. pairs_at_lem j))
