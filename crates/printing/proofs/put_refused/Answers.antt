use Rattle.printing.specs.Printed.{printed_refused}
use Rattle.loops.proofs.StoreLaws.{wrote_then}
use Rattle.printing.proofs.put_refused.Goals as goal

pub returns : goal.returns
unfolding printed_refused
returns c = wrote_then _ _ (wrote_then _ _ (wrote_then _ _ c.put_all-at.ensures c.put_decimal-at.ensures) (wrote_then _ _ c.put-at.ensures c.put_decimal-at-2.ensures)) c.put.ensures
