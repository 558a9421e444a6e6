use borrow.Author.Rules.{rules}
use Rattle.text_program.proofs.Printing.{small_numbers, refused_within}
use Rattle.margins.proofs.Printing.{few_lines, lines_within, lines_printed, refusal_printed}
use Rattle.margins.proofs.print_margins.Goals as goal

pub put_margins-requires : goal.put_margins-requires
put_margins-requires c = (search (rules, few_lines), search rules)

pub returns-in-Ok : goal.returns-in-Ok
returns-in-Ok c =
    record {
      upper_bound = search (rules, lines_within, small_numbers);
      out_after = search (rules, lines_printed, small_numbers);
    }

pub returns-in-Err : goal.returns-in-Err
returns-in-Err c =
    record {
      upper_bound = search (rules, refused_within);
      out_after = search (rules, refusal_printed);
    }
