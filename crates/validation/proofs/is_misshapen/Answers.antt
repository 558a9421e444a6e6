use Rattle.sheet.specs.Refusals.{misshapen}
use borrow.Author.Tests.{eq-eqb, ne_eqb}
use Rattle.validation.proofs.is_misshapen.Goals as goal

pub returns-then-n-ne0 : goal.returns-then-n-ne0
unfolding misshapen
returns-then-n-ne0 c = rw (ne_eqb _ 0 c.if-n-ne0.true)

pub returns-else-n-ne0 : goal.returns-else-n-ne0
unfolding misshapen
returns-else-n-ne0 c = rw (eq-eqb _ 0 c.if-n-ne0.false)
