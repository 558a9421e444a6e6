use Rattle.std.proofs.Common.{◌∙◌, refl, rules, tests}
use Rattle.std.proofs.lemmas.Iterator.{YieldsList-from_range}
use Rattle.std.proofs.lemmas.Iterator.Search.{any_from_yields_List}
use Rattle.sheet.specs.Refusals.{bad_cell}
use Rattle.column_faults.proofs.Ranges.{any_listed}
use Rattle.column_faults.proofs.has_bad_cell.Goals as goal

pub returns : goal.returns
returns c = any_from_yields_List (bad_cell c.args.rows.now c.args.k) _ _ _ c.any.ensures.ran (YieldsList-from_range 0 10 10 refl refl) (λ x b q k. search (rules, tests)) ∙ any_listed (bad_cell c.args.rows.now c.args.k) 10
