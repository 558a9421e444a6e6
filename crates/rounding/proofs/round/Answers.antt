-- `rounding::round` meets its contract. Assumes nothing.
use lib.Ieee.{of_bits}
use Rattle.rounding.proofs.Laws.{round_above, round_under, nearest_is, above_limit, below_zero}
use denote.Floats.{passes}
use Rattle.rounding.proofs.round.Goals as goal
use Rattle.rounding.proofs.round.Goals.{else-x-via-then-x+else-x-2, else-x-via-else-x}

pub truncating_f64_to_u64-requires : goal.truncating_f64_to_u64-requires
unfolding of_bits
truncating_f64_to_u64-requires c =
    record {
      lower_bound = search (round_above, passes);
      upper_bound = search (round_under, passes);
    }

pub returns-then-x-2 : goal.returns-then-x-2
unfolding of_bits
returns-then-x-2 c = search (nearest_is, passes)

pub returns-else-x : goal.returns-else-x
unfolding of_bits
returns-else-x c =
    elim c.else-x.branch [
      | else-x-via-then-x+else-x-2 w ↦ above_limit _ w.if-x-2.false
      | else-x-via-else-x w ↦ below_zero _ w.if-x.false
    ]
