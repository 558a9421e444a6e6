use Rattle.text_line.proofs.LineLaws.{line_judged, row_stored, fields_fit}
use borrow.Author.Rules.{rules}
use Rattle.text_line.proofs.read_line.Goals as goal

pub overflow_add-base : goal.overflow_add-base
overflow_add-base c = search (rules, fields_fit)

pub returns : goal.returns
returns c =
    record {
      value = search (rules, line_judged);
      rows_after = search (rules, row_stored);
    }
