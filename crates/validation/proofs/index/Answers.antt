use mathlib.Core.Path.{◌≡◌, ap, sym, ◌∙◌}
use Rattle.std.specs.Prelude.{Err}
use Rattle.refusals.specs.Refusals.{verdict_of}
use Rattle.validation.proofs.Order.{shaped, refused, indexed}
use borrow.Author.Rules.{rules}
use Rattle.validation.proofs.index.Goals as goal

pub returns-in_err-shape_fault : goal.returns-in_err-shape_fault
returns-in_err-shape_fault c =
    let e : c.shape_fault.result ≡ Err c.in_err-shape_fault.field-0.0 = search rules in
    let f : c.from_residual.result ≡ Err c.in_err-shape_fault.field-0.0 = search rules in
    refused _ _ _ f (ap verdict_of (f ∙ sym e) ∙ c.shape_fault.ensures)

pub fill-requires : goal.fill-requires
fill-requires c = search (rules, shaped)

pub returns : goal.returns
returns c = indexed _ _ _ _ (search rules) c.shape_fault.ensures (search rules) (rw c.by_kind.ensures at c.link_fault.ensures)
