use Rattle.std.proofs.Common.{◌∙◌, rules}
use Rattle.std.proofs.lemmas.Iterator.Consumers.{YieldsList-from_first}
use Rattle.std.proofs.lemmas.Iterator.Search.{any_from_yields_List}
use borrow.Author.Tests.{tests}
use Rattle.freebusy_property.specs.inner.Left.{unquoted_left}
use Rattle.freebusy_property.specs.Property.{says_free}
use Rattle.freebusy_property.proofs.PartLaws.{any_listed}
use Rattle.freebusy_property.proofs.any_free.Goals as goal

pub returns : goal.returns
returns c =
    any_from_yields_List says_free c.any.new.self _ _ c.any.ensures.ran (YieldsList-from_first (λ part. part.now) (λ p. unquoted_left p.stop p.rest) {s = c.new.result} _ c.new.ensures) (λ x b q k. search (rules, tests))
    ∙ any_listed says_free _
