use Rattle.std.proofs.Common.{sym, refl, ◌∙◌}
use Rattle.stored_run.proofs.lent_passes.Goals as goal

pub returns : goal.returns
returns g c y = (
  c.call-answer.result,
  c.call-answer.new.arg2,
  record { shown = _; shows = refl; left = _; met = c.call-answer.ensures; leaves = refl },
  sym c.came_out.ensures ∙ y,
)
