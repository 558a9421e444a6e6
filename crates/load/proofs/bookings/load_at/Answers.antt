use borrow.Author.Rules.{rules}
use native.Mathlib.Omega.{arith}
use lib.IntN.{pos}
use Rattle.load.proofs.Loads.{taken_few, load_none, load_more}
use Rattle.load.proofs.bookings.load_at.Goals as goal

pub loop-b-init : goal.loop-b-init
loop-b-init c = (omega arith, load_none _)

pub overflow_add-load : goal.overflow_add-load
overflow_add-load c = omega (arith, taken_few (pos c.args.t) c.b-item.result, c.taken_at-load.ensures, c.loop-b.invariant.0, c.as_slice-b-items.ensures.few)

pub loop-b-preserved : goal.loop-b-preserved
loop-b-preserved c = (
  omega (arith, taken_few (pos c.args.t) c.b-item.result, c.taken_at-load.ensures, c.loop-b.invariant.0),
  rw c.taken_at-load.ensures (load_more _ _ c.b-item.result c.b-item.is (search rules) _ c.loop-b.invariant.1),
)
