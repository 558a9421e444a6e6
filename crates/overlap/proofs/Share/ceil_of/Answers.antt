-- `overlap::Share::ceil_of` meets its contract. Assumes nothing.
use Rattle.overlap.proofs.Laws.{span_held, ceil_above, ceil_below, ceil_is, ceil_le}
use lib.Ieee.{in_float}
use Rattle.overlap.proofs.Share.ceil_of.Goals as goal

pub int_to_float-x : goal.int_to_float-x
unfolding in_float
int_to_float-x c = search span_held

pub truncating_f64_to_u64-requires : goal.truncating_f64_to_u64-requires
truncating_f64_to_u64-requires c =
    record {
      lower_bound = search ceil_above;
      upper_bound = search ceil_below;
    }

pub returns : goal.returns
returns c = (search ceil_is, search ceil_le)
