use mir.Facts.{to_z-of_z}
use Rattle.freebusy.proofs.CallLaws.{wrong_answer, wrong_rows, passed_answer, passed_rows}
use borrow.Author.Rules.{rules}
use Rattle.freebusy.proofs.read_calendar.Goals as goal

pub returns-in-Some : goal.returns-in-Some
returns-in-Some c =
    record {
      value = search (rules, wrong_answer);
      rows_after = search (rules, wrong_rows);
    }

-- the resource is read back from its bits
pub returns : goal.returns
returns c =
    let rows = rw (to_z-of_z c.ranges.resource) at c.read_closures.ensures.rows_after in
    record {
      value = search (rules, passed_answer);
      rows_after = search (rules, passed_rows);
    }
