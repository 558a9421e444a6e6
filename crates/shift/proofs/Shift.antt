-- Two sheets of which the second is the first with a whole number of milliseconds added to every instant have the same findings, whatever the number.
-- Assumes nothing.
use mathlib.Core.Path.{◌≡◌, refl, sym, ◌∙◌, ap}
use mathlib.Core.Bool.{Bool, true, false}
use mathlib.Core.List.{List}
use lib.IntN.{ℤ}
use Rattle.calendar.specs.Clock.{Clock, clock}
use Rattle.calendar.proofs.Moving.{unmoved}
use Rattle.model.specs.Sheet.{Sheet, sheet}
use Rattle.definition.specs.CheckSchedule.{check_schedule, findings}
use Rattle.shift.specs.Shift.{Shifted}
use Rattle.shift.specs.inner.InClass.{InClass}
use Rattle.shift.proofs.Bare.{found, same_found, only_found}
use Rattle.shift.proofs.Moved.{far, moving, sheet_moved, numbers_same, bare, bare'}

-- Whatever is worked out of a sheet through the clock alone is the same for both, if no instant becomes none.
pub same_by_clock : {R : Type 0} (F : (T : Type 0) → Clock T → Sheet T → R) (d : ℤ) (a b : List ℤ)
    → far d ≡ false
    → InClass a
    → InClass b
    → Shifted d a b
    → F ℤ clock (sheet a) ≡ F ℤ clock (sheet b)
same_by_clock F d a b near okA okB h =
    sym (unmoved moving F d (sheet a)) ∙ ap (F ℤ clock) (sym (sheet_moved d a b h near okA okB))

module _ (d : ℤ) (a b : List ℤ) (okA : InClass a) (okB : InClass b) (h : Shifted d a b) where
  near_findings : far d ≡ false → check_schedule clock (sheet a) ≡ check_schedule clock (sheet b)
  near_findings near = same_by_clock (λ T K s. check_schedule K s) d a b near okA okB h

  far_findings : far d ≡ true → check_schedule clock (sheet a) ≡ check_schedule clock (sheet b)
  far_findings f =
      only_found clock (sheet a) (bare d a b h f okA okB)
      ∙ same_found (sheet a)
      ∙ ap found (sym (numbers_same d a b h))
      ∙ sym (same_found (sheet b))
      ∙ sym (only_found clock (sheet b) (bare' d a b h f okA okB))

  -- the whole list, line for line
  pub same_findings : findings a ≡ findings b
  unfolding findings
  same_findings = go (far d) refl
    where
      go : (t : Bool) → far d ≡ t → check_schedule clock (sheet a) ≡ check_schedule clock (sheet b)
      go true f = far_findings f
      go false f = near_findings f
