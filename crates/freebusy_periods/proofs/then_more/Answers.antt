use Rattle.std.proofs.Common.{sym, ◌∙◌}
use borrow.Author.Tests.{eqb-true, eqb-false}
use Rattle.freebusy_periods.proofs.AmountLaws.{thens}
use Rattle.freebusy_periods.proofs.then_more.Goals as goal

pub returns-then-is_empty : goal.returns-then-is_empty
returns-then-is_empty c = λ next e. let z = eqb-true _ _ (sym c.is_empty.ensures ∙ c.if-is_empty.true) in search thens

pub returns-in_err-more : goal.returns-in_err-more
returns-in_err-more c = λ next e. let z = eqb-false _ _ (sym c.is_empty.ensures ∙ c.if-is_empty.false) in search thens

pub returns : goal.returns
returns c = λ next e. let z = eqb-false _ _ (sym c.is_empty.ensures ∙ c.if-is_empty.false) in search thens
