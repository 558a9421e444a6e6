-- `overlap::Overlap::earliest_start` meets its contract. Assumes nothing.
use Rattle.overlap.proofs.Laws.{start_ahead, start_behind}
use Rattle.std.proofs.Common.{arith, rules}
use Rattle.overlap.proofs.Overlap.earliest_start.Goals as goal

pub returns-then-start-end : goal.returns-then-start-end
returns-then-start-end c = (search (rules, start_ahead), omega arith)

pub returns-else-start-end : goal.returns-else-start-end
returns-else-start-end c = (search (rules, start_behind), omega arith)
