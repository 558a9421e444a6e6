-- What is reported of a booked resource. Assumes nothing.
use Prim.Native.Nat.{ℕ}
use mathlib.Core.Path.{◌≡◌, ap, ◌∙◌}
use mathlib.Core.Bool.{Bool, true}
use mathlib.Core.List.{List, foldl}
use lib.IntN.{ℤ, pos}
use lib.Signed.{lt_z}
use mir.Syntax.{w64}
use mir.Val.{SFits, to_z, of_z}
use mir.Facts.{to_z-of_z}
use Rattle.loops.specs.Lists.{given}
use Rattle.chains.specs.Places.{places}
use Rattle.lent_room.specs.declared.lent_list.LentList.{LentList}
use Rattle.calendar.specs.Clock.{clock}
use Rattle.rows.specs.Cells.{row_count, num}
use Rattle.findings.specs.declared.Violation.{Violation}
use Rattle.findings.specs.inner.Sink.{Sink, emit}
use Rattle.findings.specs.inner.Told.{Told, tell, telling}
use Rattle.findings.proofs.Reporting.{tell_places}
use Rattle.model.specs.Sheet.{sheet}
use Rattle.model.specs.Schedule.{capacity_exceeded}
use Rattle.load.specs.Load.{peak_of, bookings_on, cap_of}
use Rattle.load.specs.inner.Firsts.{is_first}
use Rattle.load.specs.declared.booking.Booking.{Booking}
use Rattle.load.specs.inner.Lent.{lent}
use Rattle.load.proofs.Told.{peak_is, booked_told, booked_silent, booked_first, booked_all}
use Rattle.definition.specs.CheckCapacity.{check_resource, check_capacity}

module _ (rows : List ℤ) (x : ℕ) where
  pub resource_told : (b : LentList Booking 800) {o : Bool} {c : ℤ} {p : ℕ} → SFits w64 c → o ≡ lt_z (to_z w64 (of_z w64 c)) (pos p) → c ≡ cap_of (sheet rows) x
      → lent b ≡ bookings_on (sheet rows) x → p ≡ peak_of lt_z (lent b) → given o (capacity_exceeded 5 x) ≡ check_resource clock (sheet rows) x
  unfolding check_resource
  resource_told b f e c g p = rw (← c, ← peak_is rows x b g p) (rw (to_z-of_z f) at (ap (λ o. given o (capacity_exceeded 5 x)) e))

  -- the same, written to a lent buffer
  pub resource_told_lem : (s : Sink) {s' : Sink} (b : LentList Booking 800) {o : Bool} {c : ℤ} {p : ℕ} → SFits w64 c → o ≡ lt_z (to_z w64 (of_z w64 c)) (pos p) → c ≡ cap_of (sheet rows) x
      → lent b ≡ bookings_on (sheet rows) x → p ≡ peak_of lt_z (lent b) → s' ≡ emit s (given o (capacity_exceeded 5 x)) → s' ≡ emit s (check_resource clock (sheet rows) x)
  resource_told_lem s b f e c g p q = q ∙ ap (emit s) (resource_told b f e c g p)

-- ---- row by row

module _ (rows : List ℤ) where
  -- what is told of row k, where that is the first booking of its resource
  unfoldable pub told_at : ℕ → List Violation
  told_at = booked_told rows (check_resource clock (sheet rows))

  pub told_first : (k : ℕ) → is_first rows k ≡ true → told_at k ≡ check_resource clock (sheet rows) (num rows k 3)
  unfolding told_at
  told_first k h = booked_first rows (check_resource clock (sheet rows)) k h

  pub capacity_told : (t : Told) → foldl (telling told_at) t (places (is_first rows) (row_count rows)) ≡ tell t (check_capacity clock (sheet rows))
  unfolding told_at check_capacity
  capacity_told t =
      tell_places (is_first rows) told_at (row_count rows) t (booked_silent rows (check_resource clock (sheet rows)))
      ∙ ap (tell t) (booked_all rows (check_resource clock (sheet rows)))
