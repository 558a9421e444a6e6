use Rattle.std.proofs.Common.{◌∙◌, rules}
use Rattle.std.proofs.lemmas.Iterator.Search.{any_from_yields_List}
use Rattle.freebusy_lines.specs.inner.Reading.{fold_first}
use Rattle.freebusy_lines.proofs.FoldLaws.{windows_yield, any_window}
use Rattle.freebusy_lines.proofs.has_fold.Goals as goal

pub returns : goal.returns
returns c =
    any_from_yields_List fold_first _ _ _ c.any.ensures.ran (windows_yield c.args.s.now c.windows.ensures.size c.windows.ensures.rest) (λ x b q k. search rules)
    ∙ any_window c.args.s.now
