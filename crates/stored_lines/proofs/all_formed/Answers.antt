use Rattle.std.proofs.Common.{rules, ◌∙◌}
use Rattle.std.proofs.lemmas.Iterator.Consumers.{YieldsList-from_first}
use Rattle.std.proofs.lemmas.Iterator.Search.{all_from_yields_List}
use Rattle.text_fields.specs.Parts.{parts, parts_left}
use Rattle.text_fields.proofs.AllLaws.{all_listed}
use Rattle.stored_lines.specs.inner.Line.{is_formed}
use Rattle.stored_lines.proofs.all_formed.Goals as goal

pub returns : goal.returns
returns c =
    all_from_yields_List is_formed _ _ _ c.all.ensures.ran
    (YieldsList-from_first (λ x. x.now) parts_left (parts 10 c.args.lines.now) c.new.ensures) (λ x b q k. search rules)
    ∙ all_listed is_formed (parts 10 c.args.lines.now)
