use Rattle.stored_lines.proofs.LineLaws.{line_within, case_found, line_from}
use borrow.Author.Rules.{rules}
use Rattle.stored_lines.proofs.case_at.Goals as goal

pub returns : goal.returns
returns c =
    record {
      case_at = search (rules, case_found);
      at_le_line = (search (rules, line_from), search rules, search (rules, line_within));
    }
