use Rattle.std.specs.Prelude.{pos, replicate}
use Rattle.printing.proofs.FitLaws.{Small}
use Rattle.text_program.proofs.Printing.{small_numbers, refused_within}
use Rattle.closures.proofs.Printing.{few_rows, rows_within, rows_printed, refusal_printed}
use Rattle.std.proofs.Common.{rules, arith}
use Rattle.closures.proofs.print_closures.Goals as goal

pub put_rows-requires : goal.put_rows-requires
put_rows-requires c = (few_rows c.args.text.now c.args.resource (replicate 8000 (pos 0)) (search rules) c.read_freebusy-answer.ensures.value c.ranges.resource c.in-Ok.is, search rules)

pub returns-in-Ok : goal.returns-in-Ok
returns-in-Ok c =
    let small : Small c.kept-rows.result = small_numbers _ c.kept-rows.type_inv.0 c.kept-rows.type_inv.1.1 in
    record {
      upper_bound = rows_within c.args.text.now c.args.resource (replicate 8000 (pos 0)) (search rules) c.read_freebusy-answer.ensures.value c.ranges.resource
          c.read_freebusy-answer.new.rows c.kept-rows.result c.put_rows.ensures c.requires c.in-Ok.is c.kept-rows.ensures c.read_freebusy-answer.ensures.rows_after small;
      out_after = rows_printed c.args.text.now c.args.resource (replicate 8000 (pos 0)) (search rules) c.read_freebusy-answer.ensures.value c.ranges.resource
          c.read_freebusy-answer.new.rows c.kept-rows.result c.put_rows.ensures c.requires c.in-Ok.is c.kept-rows.ensures c.read_freebusy-answer.ensures.rows_after small;
    }

pub returns-in-Err : goal.returns-in-Err
returns-in-Err c =
    record {
      upper_bound = refused_within _ c.put_refusal.ensures c.requires (omega arith) (search rules);
      out_after = refusal_printed c.args.text.now c.args.resource (replicate 8000 (pos 0)) (search rules) c.read_freebusy-answer.ensures.value c.ranges.resource
          c.put_refusal.ensures c.requires c.in-Err.is (search rules);
    }
