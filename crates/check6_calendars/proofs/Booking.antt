-- The findings of any booking, and of all of them. Assumes nothing.
use Prim.Native.Nat.{ℕ}
use mathlib.Core.Path.{◌≡◌, refl, ap, sym, ◌∙◌}
use mathlib.Core.Bool.{true, cond}
use mathlib.Core.List.{List, [], append-nil, foldl}
use Rattle.std.specs.Prelude.{Option, None, Some}
use lib.IntN.{ℤ}
use Rattle.loops.specs.Lists.{each, option}
use Rattle.loops.specs.inner.Chain.{Silent}
use Rattle.loops.proofs.ListLaws.{each_collect}
use Rattle.calendar.specs.Clock.{clock}
use Rattle.chains.specs.Places.{places}
use Rattle.findings.specs.declared.Violation.{Violation}
use Rattle.findings.specs.inner.Told.{Told, tell, telling}
use Rattle.findings.proofs.Reporting.{tell_none, tell_places}
use Rattle.rows.specs.Cells.{row_count, num, is}
use Rattle.sheet.specs.declared.Found.{Found}
use Rattle.sheet.specs.declared.Found.TheVariants.{Nothing}
use Rattle.sheet.specs.inner.Found.{found_of}
use Rattle.sheet.specs.Places.{of_kind, place_of}
use Rattle.model.specs.Sheet.{sheet}
use Rattle.model.specs.Schedule.{assignment_at, assignments_below, assignments}
use Rattle.model.specs.inner.Records.{activity_of, assignment_of}
use Rattle.model.proofs.RowLaws.{assignment_row, assignment_none}
use Rattle.model.proofs.Finds.{find_resource_lem, find_activity_lem}
use Rattle.check6_calendars.proofs.Plain.{by_resource, alone}
use Rattle.definition.specs.CheckCalendars.{check_resumable, check_plain, check_booking, check_calendars}

-- the findings of row k
abbrev pub by_booking : List ℤ → ℕ → List Violation
by_booking rows k = each (check_booking clock (sheet rows)) (assignment_at (sheet rows) k)

module _ (rows : List ℤ) (k : ℕ) where
  -- the findings of booking k, by what the lookups of its resource and of its activity find
  unfoldable pub judged : Option ℕ → Option ℕ → List Violation
  judged r a =
      option r [] λ o.
      option a (by_resource rows k) λ x.
      cond (is rows x 7 1) (check_resumable clock (sheet rows) (assignment_of rows k) (activity_of rows x)) (check_plain clock (sheet rows) (assignment_of rows k) (Some (activity_of rows x)))

  judged_is : (r a : Option ℕ) → r ≡ place_of rows 11 (num rows k 3) → a ≡ place_of rows 2 (num rows k 1)
      → check_booking clock (sheet rows) (assignment_of rows k) ≡ judged r a
  unfolding check_booking is judged
  judged_is None a p q = rw (find_resource_lem rows (num rows k 3), ← p)
  judged_is (Some o) None p q = rw (find_resource_lem rows (num rows k 3), ← p, find_activity_lem rows (num rows k 1), ← q) (sym (alone rows k))
  judged_is (Some o) (Some x) p q = rw (find_resource_lem rows (num rows k 3), ← p, find_activity_lem rows (num rows k 1), ← q)

  pub booking_judged : is rows k 0 23 ≡ true → by_booking rows k ≡ judged (place_of rows 11 (num rows k 3)) (place_of rows 2 (num rows k 1))
  unfolding each
  booking_judged h = rw (assignment_row rows k h) (append-nil _ ∙ judged_is _ _ refl refl)

-- a resource that is not in the sheet
pub absent_told : (rows : List ℤ) (k : ℕ) (t : Told) {f : Found} → is rows k 0 23 ≡ true → found_of f ≡ place_of rows 11 (num rows k 3) → f ≡ Nothing → t ≡ tell t (by_booking rows k)
unfolding judged
absent_told rows k t h p z = sym (ap (tell t) (booking_judged rows k h ∙ ap (λ r. judged rows k r (place_of rows 2 (num rows k 1))) (sym p ∙ ap found_of z)) ∙ tell_none t)

pub booking_silent : (rows : List ℤ) → Silent (of_kind rows 23) (by_booking rows)
unfolding each of_kind
booking_silent rows = record { still = λ k h. rw (assignment_none rows k h) }

pub calendars_told : (rows : List ℤ) (t : Told) → foldl (telling (by_booking rows)) t (places (of_kind rows 23) (row_count rows)) ≡ tell t (check_calendars clock (sheet rows))
unfolding check_calendars assignments assignments_below
calendars_told rows t =
    tell_places (of_kind rows 23) (by_booking rows) (row_count rows) t (booking_silent rows)
    ∙ ap (tell t) (sym (each_collect (check_booking clock (sheet rows)) (assignment_at (sheet rows)) (row_count rows)))
