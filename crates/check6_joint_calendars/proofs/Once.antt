-- Each resource of a piece once: the rows of the resources that its bookings are on work when those of all its bookings do. Assumes nothing.
use Prim.Native.Nat.{ℕ, ◌<◌}
use mathlib.Core.Path.{◌≡◌, refl, ap, sym, ◌∙◌}
use mathlib.Core.Bool.{Bool, true, false, not, ◌&&◌, true≢false}
use mathlib.Core.List.{List, []}
use Rattle.std.specs.Prelude.{Option, None, Some}
use lib.Dec.{eqb}
use lib.IntN.{ℤ}
use borrow.Author.Tests.{eqb-true, eq-eqb}
use Rattle.loops.specs.Lists.{any_of, option}
use Rattle.loops.specs.Search.{any_below}
use Rattle.loops.proofs.BoolLaws.{and_left, and_right, both, both_ways}
use Rattle.loops.proofs.SearchLaws.{any_hit}
use Rattle.calendar.specs.Clock.{clock}
use Rattle.calendar.specs.Calendar.{is_working_time}
use Rattle.loops.proofs.PlaceLaws.{hit}
use Rattle.rows.specs.Cells.{row_count, num, is}
use Rattle.sheet.specs.inner.Accepted.{Accepted}
use Rattle.sheet.specs.Places.{place_of}
use Rattle.sheet.proofs.Lookups.{placed}
use Rattle.model.specs.Sheet.{sheet}
use Rattle.model.specs.Resource.{windows}
use Rattle.model.proofs.Finds.{found_self}
use Rattle.pieces.specs.inner.Bookings.{in_piece}
use Rattle.window_rows.proofs.WindowRows.{windows_none}
use Rattle.check6_joint_calendars.specs.inner.Taken.{is_on, taken_below, taken}
use Rattle.check6_joint_calendars.proofs.Joint.{rests_at}

-- ---- searches

-- the row of the resource that a booking is on
on_place : (rows : List ℤ) (j r : ℕ) → is_on rows j r ≡ true → place_of rows 11 (num rows j 3) ≡ Some r
on_place rows j r = go (place_of rows 11 (num rows j 3))
  where
    go : (x : Option ℕ) → option x false (λ s. eqb s r) ≡ true → x ≡ Some r
    go None e = absurd (true≢false (sym e))
    go (Some s) e = ap Some (eqb-true s r e)

-- a resource that is taken is the one that its id finds
pub taken_place : (rows : List ℤ) (k r : ℕ) → taken rows k r ≡ true → place_of rows 11 (num rows r 1) ≡ Some r
unfolding taken_below
taken_place rows k r e =
    let j = hit (λ i. in_piece rows k i && is_on rows i r) (row_count rows) e in
    found_self rows 11 _ r (on_place rows j.place r (and_right (in_piece rows k j.place) _ j.passes))

-- ---- each resource once

-- a calendar with no window works always
never_rests : (t : ℤ) → is_working_time clock [] t ≡ true
unfolding is_working_time any_of
never_rests t = refl

module _ (rows : List ℤ) (acc : Accepted rows) (k : ℕ) (l : k < row_count rows) (h : is rows k 0 23 ≡ true) (t : ℤ) where
  -- a resource that is taken is at rest
  unfoldable pub taken_rests : ℕ → Bool
  taken_rests r = taken rows k r && not (is_working_time clock (windows (sheet rows) 15 (num rows r 1)) t)

  to_booking : any_below taken_rests (row_count rows) ≡ true → any_below (rests_at rows acc k l h t) (row_count rows) ≡ true
  unfolding taken_rests taken_below rests_at
  to_booking e =
      let r = hit taken_rests (row_count rows) e in
      let u = and_left (taken rows k r.place) _ r.passes in
      let v = and_right (taken rows k r.place) _ r.passes in
      let j = hit (λ i. in_piece rows k i && is_on rows i r.place) (row_count rows) u in
      let p = and_left (in_piece rows k j.place) _ j.passes in
      let i = (placed rows 11 _ _ (on_place rows j.place r.place (and_right (in_piece rows k j.place) _ j.passes))).id_is in
      sym
      (any_hit (rests_at rows acc k l h t) j.place (row_count rows) (row_count rows) j.below refl
      (both p (rw i at v)))

  to_resource : any_below (rests_at rows acc k l h t) (row_count rows) ≡ true → any_below taken_rests (row_count rows) ≡ true
  unfolding taken_rests taken_below rests_at
  to_resource e =
      let j = hit (rests_at rows acc k l h t) (row_count rows) e in
      let p = and_left (in_piece rows k j.place) _ j.passes in
      go j.place j.below p (and_right (in_piece rows k j.place) _ j.passes) (place_of rows 11 (num rows j.place 3)) refl
    where
      go : (j : ℕ) → j < row_count rows → in_piece rows k j ≡ true → not (is_working_time clock (windows (sheet rows) 15 (num rows j 3)) t) ≡ true
          → (x : Option ℕ) → place_of rows 11 (num rows j 3) ≡ x → any_below taken_rests (row_count rows) ≡ true
      go j m p v None q =
          absurd (true≢false (sym v ∙ ap not (ap (λ c. is_working_time clock c t) (windows_none rows acc (num rows j 3) q) ∙ never_rests t)))
      go j m p v (Some r) q =
          let d = placed rows 11 (num rows j 3) r q in
          sym
          (any_hit taken_rests r (row_count rows) (row_count rows) d.within refl
          (both
          (sym
          (any_hit (λ i. in_piece rows k i && is_on rows i r) j (row_count rows) (row_count rows) m refl
          (both p (rw q (eq-eqb r r refl)))))
          (ap (λ i. not (is_working_time clock (windows (sheet rows) 15 i) t)) d.id_is ∙ v)))

  -- so each resource need be asked once
  pub once_each : any_below taken_rests (row_count rows) ≡ any_below (rests_at rows acc k l h t) (row_count rows)
  once_each = both_ways _ _ to_booking to_resource
