use Rattle.std.specs.Prelude.{pos, replicate}
use Rattle.text_program.proofs.Printing.{text_accepted, text_refused, rows_fit, rows_within, rows_first}
use Rattle.std.proofs.Common.{rules, arith, refl}
use Rattle.text_program.proofs.print_text.Goals as goal

pub overflow_mul-rows : goal.overflow_mul-rows
overflow_mul-rows g c = rows_fit c.args.text.now (replicate 8000 (pos 0)) (search rules) c.read_text.ensures.value c.in-Ok.is _ (omega arith)

pub slice_bounds-rows-end : goal.slice_bounds-rows-end
slice_bounds-rows-end g c = rows_within c.args.text.now (replicate 8000 (pos 0)) (search rules) c.read_text.ensures.value c.in-Ok.is _ (omega arith) c.read_text.new.rows (search rules)

pub slice_bounds-print_rows-end : goal.slice_bounds-print_rows-end
slice_bounds-print_rows-end g c = rows_first c.args.text.now (replicate 8000 (pos 0)) (search rules) c.read_text.ensures.value c.in-Ok.is _ (omega arith) c.read_text.new.rows (search rules)

pub returns-in-Ok-clause-out_after : goal.returns-in-Ok-clause-out_after
returns-in-Ok-clause-out_after g c =
    text_accepted c.args.text.now (replicate 8000 (pos 0)) (search rules) c.read_text.ensures.value g.of_rows _ c.read_text.ensures.rows_after c.in-Ok.is (search rules)

pub returns-in-Err-clause-out_after : goal.returns-in-Err-clause-out_after
returns-in-Err-clause-out_after g c =
    text_refused c.args.text.now (replicate 8000 (pos 0)) (search rules) c.read_text.ensures.value g.of_rows c.put_refusal.ensures refl (search rules) c.in-Err.is (search rules)
