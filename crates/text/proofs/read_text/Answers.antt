use Rattle.text.proofs.TextLaws.{long_text, long_rows, short_answer, refused_rows, read_rows}
use native.Mathlib.Omega.{arith}
use borrow.Author.Rules.{rules}
use lib.Seq.{length-sets}
use Rattle.text.proofs.read_text.Goals as goal

pub returns-then-text-gt65536 : goal.returns-then-text-gt65536
returns-then-text-gt65536 c = search (rules, long_text, long_rows)

pub returns-in_err-read_lines : goal.returns-in_err-read_lines
returns-in_err-read_lines c = search (rules, short_answer, refused_rows)

pub returns : goal.returns
returns c =
    record {
      value = search (rules, short_answer);
      rows_after =
          read_rows _ _ (omega arith) c.read_lines.ensures.value c.read_lines.new.rows (search (rules, length-sets)) c.in_ok-read_lines.field-0 (search rules) (search rules);
    }
