use Rattle.feasibility.proofs.Top.{times_answer, times_left}
use borrow.Author.Rules.{rules}
use Rattle.feasibility.proofs.check_times.Goals as goal

pub returns-in_err-fill : goal.returns-in_err-fill
returns-in_err-fill c =
    let v = c.fill.ensures.verdict in
    record {
      value = times_answer _ _ {e = c.in_err-fill.field-0.0} v c.fill.ensures.known (search rules) (search rules);
      out_after = times_left _ _ {e = c.in_err-fill.field-0.0} v c.fill.ensures.known (search rules);
    }
