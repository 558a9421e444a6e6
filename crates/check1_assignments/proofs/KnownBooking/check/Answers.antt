use mathlib.Core.Path.{sym, ◌∙◌}
use Rattle.check1_assignments.proofs.Judging.{held_told}
use Rattle.check1_assignments.proofs.KnownBooking.check.Goals as goal

pub returns-else-not-is_held : goal.returns-else-not-is_held
returns-else-not-is_held c =
    held_told _ _ _ _ (sym c.is_misplaced.ensures ∙ c.if-is_misplaced.false) c.args.self.now.booked.kind (sym c.is_held.ensures ∙ c.if-not-is_held.false)
