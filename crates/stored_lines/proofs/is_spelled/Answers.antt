use Rattle.std.proofs.Common.{rules, ◌∙◌}
use Rattle.std.proofs.lemmas.Iterator.Consumers.{YieldsList-from_first}
use Rattle.std.proofs.lemmas.Iterator.Search.{all_from_yields_List}
use Rattle.text_fields.specs.Parts.{parts_left}
use Rattle.text_fields.proofs.AllLaws.{all_listed}
use Rattle.text_fields.specs.Spelling.{number_of}
use Rattle.text_line.specs.Line.{is_number, spelled, fields_of}
use Rattle.stored_lines.proofs.is_spelled.Goals as goal

pub returns : goal.returns
unfolding spelled
returns c =
    all_from_yields_List (λ f. is_number (number_of f)) _ _ _ c.all.ensures.ran
    (YieldsList-from_first (λ x. x.now) parts_left (fields_of c.args.line.now) c.new.ensures) (λ x b q k. search rules)
    ∙ all_listed (λ f. is_number (number_of f)) (fields_of c.args.line.now)
