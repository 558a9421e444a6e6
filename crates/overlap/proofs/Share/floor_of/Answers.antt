-- `overlap::Share::floor_of` meets its contract. Assumes nothing.
use Rattle.overlap.proofs.Laws.{span_held, cut_above, cut_below, cut_is, cut_le}
use lib.Ieee.{in_float}
use Rattle.overlap.proofs.Share.floor_of.Goals as goal

pub int_to_float-span : goal.int_to_float-span
unfolding in_float
int_to_float-span c = search span_held

pub truncating_f64_to_u64-requires : goal.truncating_f64_to_u64-requires
truncating_f64_to_u64-requires c =
    record {
      lower_bound = search cut_above;
      upper_bound = search cut_below;
    }

pub returns : goal.returns
returns c = (search cut_is, search cut_le)
