use native.Mathlib.Omega.{arith}
use mir.Facts.{to_z-of_z}
use Rattle.freebusy.proofs.CallLaws.{read_answer, read_rows, read_space, refused_answer, refused_rows, refused_space}
use borrow.Author.Rules.{rules}
use Rattle.freebusy.proofs.read_closures.Goals as goal

-- the resource is read back from its bits
pub returns-in_err-found : goal.returns-in_err-found
returns-in_err-found c =
    let on = rw (to_z-of_z c.ranges.resource) at c.read_periods-found.ensures.read_on in
    let q = c.in_err-found.was in
    record {
      value = search (rules, refused_answer);
      rows_after = refused_rows _ _ c.args.rows.now on (omega arith) q c.read_periods-found.new.rows (omega arith);
      space_after = search (rules, refused_space);
    }

pub returns : goal.returns
returns c =
    let on = rw (to_z-of_z c.ranges.resource) at c.read_periods-found.ensures.read_on in
    let again = rw (to_z-of_z c.ranges.resource) at c.read_periods.ensures.read_on in
    let q = c.in_ok-found.was in
    record {
      value = read_answer _ _ c.args.rows.now on (omega arith) q;
      rows_after = read_rows _ _ c.args.rows.now on (omega arith) q c.read_periods-found.new.rows (omega arith) again;
      space_after = search (rules, read_space);
    }
