use Rattle.std.proofs.Common.{◌∙◌, rules}
use Rattle.std.proofs.lemmas.Iterator.Consumers.{YieldsList-from_first}
use Rattle.std.proofs.lemmas.Iterator.Search.{all_from_yields_List}
use borrow.Author.Tests.{tests}
use Rattle.text_fields.proofs.AllLaws.{all_listed}
use Rattle.freebusy_periods.specs.Period.{period}
use Rattle.text_fields.specs.Parts.{parts_left}
use Rattle.freebusy_property.specs.Property.{fbvalue}
use Rattle.freebusy_property.proofs.are_periods.Goals as goal

pub returns : goal.returns
unfolding fbvalue
returns c =
    all_from_yields_List period _ _ _ c.all.ensures.ran (YieldsList-from_first (λ part. part.now) parts_left _ c.new.ensures) (λ x b q k. search (rules, tests))
    ∙ all_listed period _
