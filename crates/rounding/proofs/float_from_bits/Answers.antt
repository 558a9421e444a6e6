-- `rounding::float_from_bits` meets its contract. Assumes nothing.
use lib.Ieee.{of_bits, div}
use Rattle.std.proofs.Common.{refl}
use Rattle.rounding.proofs.Laws.{nan_above, number_below}
use Rattle.rounding.proofs.float_from_bits.Goals as goal

pub returns-then-bits-gt-INFINITY : goal.returns-then-bits-gt-INFINITY
unfolding of_bits div
returns-then-bits-gt-INFINITY c = nan_above _ c.if-bits-gt-INFINITY.true

pub float_from_bits-result : goal.float_from_bits-result
float_from_bits-result c = number_below _ c.if-bits-gt-INFINITY.false

pub returns : goal.returns
returns c = refl
