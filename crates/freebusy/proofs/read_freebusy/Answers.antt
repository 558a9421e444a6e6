use mir.Facts.{to_z-of_z}
use Rattle.freebusy.proofs.CallLaws.{long_answer, long_rows, stray_answer, stray_rows, call_answer, call_rows}
use borrow.Author.Rules.{rules}
use Rattle.freebusy.proofs.read_freebusy.Goals as goal

pub returns-then-text-gt65536 : goal.returns-then-text-gt65536
returns-then-text-gt65536 c = search (rules, long_answer, long_rows)

pub returns-then-not-allows : goal.returns-then-not-allows
returns-then-not-allows c =
    record {
      value = search stray_answer;
      rows_after = search stray_rows;
    }

-- the resource is read back from its bits
pub returns : goal.returns
returns c =
    let rows = rw (to_z-of_z c.ranges.resource) at c.read_calendar.ensures.rows_after in
    record {
      value = search call_answer;
      rows_after = search call_rows;
    }
