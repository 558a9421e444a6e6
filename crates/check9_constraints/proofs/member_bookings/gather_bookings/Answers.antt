use Rattle.std.proofs.Common.{arith}
use Rattle.std.proofs.lemmas.Grind.{common_steps}
use Rattle.loops.specs.Lists.{each}
use Rattle.lent_room.proofs.Pushing.{past_more}
use Rattle.check9_constraints.specs.inner.Bookings.{booking_of, bookings_of}
use Rattle.check9_constraints.proofs.member_bookings.gather_bookings.Goals as goal

pub loop-k-preserved : goal.loop-k-preserved
unfolding booking_of bookings_of each
loop-k-preserved c = grind (arith, common_steps, past_more _ _ _ c.push.ensures.list c.push.ensures.behind c.loop-k.invariant.2)
