use Rattle.feasibility.proofs.Top.{rows_answer, rows_left}
use Rattle.acceptance.proofs.Order.{indexed_of}
use borrow.Author.Rules.{rules}
use Rattle.feasibility.proofs.check_schedule.Goals as goal

pub new-requires : goal.new-requires
new-requires c = indexed_of _ c.index.ensures (search rules)

pub returns-in_err-index : goal.returns-in_err-index
returns-in_err-index c =
    record {
      value = rows_answer _ _ {e = c.in_err-index.field-0.0} c.index.ensures.verdict (search rules) (search rules);
      out_after = rows_left _ _ {e = c.in_err-index.field-0.0} c.index.ensures.verdict (search rules);
    }
