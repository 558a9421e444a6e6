-- The findings of a booking that may not pause. Assumes nothing.
use Prim.Native.Nat.{ℕ}
use mathlib.Core.Path.{◌≡◌, ap, sym, ◌∙◌}
use mathlib.Core.Bool.{Bool, not}
use mathlib.Core.List.{List, append-nil}
use Rattle.std.specs.Prelude.{None, Some}
use lib.IntN.{ℤ, pos}
use Rattle.loops.specs.Lists.{given}
use Rattle.calendar.specs.Clock.{clock}
use Rattle.calendar.specs.Calendar.{interval_fits}
use Rattle.findings.specs.declared.Violation.{Violation}
use Rattle.findings.specs.inner.Told.{Told, tell}
use Rattle.findings.proofs.Reporting.{tell_append}
use Rattle.rows.specs.Cells.{num}
use Rattle.sheet.specs.Places.{place_of}
use Rattle.sheet.proofs.Lookups.{placed}
use Rattle.model.specs.Sheet.{sheet}
use Rattle.model.specs.Resource.{windows}
use Rattle.model.specs.Schedule.{resource_unavailable, time_window_violation}
use Rattle.model.specs.inner.Records.{activity_of, assignment_of}
use Rattle.definition.specs.CheckCalendars.{check_plain}

module _ (rows : List ℤ) (k : ℕ) where
  abbrev fitting : ℕ → ℕ → Bool
  fitting x id = interval_fits clock (windows (sheet rows) x id) (pos (num rows k 4)) (pos (num rows k 5))

  abbrev pub by_resource : List Violation
  by_resource = given (not (fitting 15 (num rows k 3))) (resource_unavailable 6 (num rows k 3))

  -- the finding by the windows of row o, whose id is the one that the booking names
  pub resource_fits : (o : ℕ) {b : Bool} → place_of rows 11 (num rows k 3) ≡ Some o → b ≡ fitting 15 (num rows o 1) → b ≡ fitting 15 (num rows k 3)
  resource_fits o p f = f ∙ ap (fitting 15) (placed rows 11 _ o p).id_is

  pub both_told : (a : ℕ) (t t₁ : Told) {t₂ : Told} → t₂ ≡ tell t₁ (given (not (fitting 16 (num rows a 1))) (time_window_violation 6 (num rows k 1))) → t₁ ≡ tell t by_resource
      → t₂ ≡ tell t (check_plain clock (sheet rows) (assignment_of rows k) (Some (activity_of rows a)))
  unfolding check_plain
  both_told a t t₁ q p = q ∙ rw p (tell_append t _ _)

  pub alone : by_resource ≡ check_plain clock (sheet rows) (assignment_of rows k) None
  unfolding check_plain
  alone = sym (append-nil by_resource)
