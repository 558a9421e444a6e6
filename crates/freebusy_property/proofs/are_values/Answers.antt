use Rattle.std.proofs.Common.{◌∙◌, rules}
use Rattle.std.proofs.lemmas.Iterator.Consumers.{YieldsList-from_first}
use Rattle.std.proofs.lemmas.Iterator.Search.{all_from_yields_List}
use borrow.Author.Tests.{tests}
use Rattle.text_fields.proofs.AllLaws.{all_listed}
use Rattle.freebusy_characters.specs.ParamValue.{param_value}
use Rattle.freebusy_property.specs.inner.Left.{unquoted_left}
use Rattle.freebusy_property.specs.Property.{param_values}
use Rattle.freebusy_property.proofs.are_values.Goals as goal

pub returns : goal.returns
unfolding param_values
returns c =
    all_from_yields_List param_value c.all.new.self _ _ c.all.ensures.ran (YieldsList-from_first (λ part. part.now) (λ p. unquoted_left p.stop p.rest) {s = c.new.result} _ c.new.ensures) (λ x b q k. search (rules, tests))
    ∙ all_listed param_value _
