use mathlib.Core.Path.{ap, refl, ◌∙◌}
use Rattle.loops.specs.Lists.{keep}
use Rattle.chains.proofs.PlaceLaws.{left_start}
use Rattle.load.specs.inner.Firsts.{is_first}
use Rattle.load.proofs.Firsts.{firsts_are}
use Rattle.load.proofs.first_bookings.booked.Goals as goal

pub invariant_of-result : goal.invariant_of-result
invariant_of-result c = left_start _ _ refl c.of_kind.ensures.places

pub returns-clause-booked : goal.returns-clause-booked
returns-clause-booked c = ap (keep (is_first c.args.rows.now)) c.of_kind.ensures.places ∙ firsts_are c.args.rows.now
