use Rattle.margin_lines.proofs.Ends.{rows_pass, over_answer, over_left, full_answer, full_left, longer_answer, longer_left}
use borrow.Author.Rules.{rules}
use Rattle.margin_lines.proofs.write_margins.Goals as goal

pub put_margins-count-requires : goal.put_margins-count-requires
put_margins-count-requires c = search (rules, rows_pass)

pub returns-in-Over : goal.returns-in-Over
returns-in-Over c =
    record {
      value = search (rules, over_answer);
      out_after = search (rules, over_left);
    }

pub returns-in-Full : goal.returns-in-Full
returns-in-Full c =
    record {
      value = search (rules, full_answer);
      out_after = search (rules, full_left);
    }

pub returns-in-Longer : goal.returns-in-Longer
returns-in-Longer c =
    record {
      value = search (rules, longer_answer);
      out_after = search (rules, longer_left);
    }
