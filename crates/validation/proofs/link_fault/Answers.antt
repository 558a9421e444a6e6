use mathlib.Core.Path.{◌≡◌, ap, ◌∙◌}
use Rattle.std.proofs.Common.{rules}
use Rattle.loops.specs.Search.{first}
use Rattle.refusals.specs.Refusals.{verdict_of}
use Rattle.sheet.specs.Refusals.{owner_fault, repeat_fault}
use Rattle.validation.specs.inner.Answer.{link_refusal}
use Rattle.validation.proofs.Order.{ends, goes_on}
use Rattle.validation.proofs.link_fault.Goals as goal

pub returns-in_err-first_fault : goal.returns-in_err-first_fault
unfolding link_refusal
returns-in_err-first_fault c =
    let o = owner_fault c.args.rows.now in
    let e : verdict_of c.first_fault.result ≡ first o c.row_count-count.result = rw (← c.requires) (c.first_fault.ensures (owner_fault c.args.links.now) (λ k v l p. search (rules, p))) in
    let f = e ∙ ap (first o) c.row_count-count.ensures.value in
    search (rules, ends, f)

pub returns : goal.returns
unfolding link_refusal
returns c =
    let o = owner_fault c.args.rows.now in
    let e : verdict_of c.first_fault.result ≡ first o c.row_count-count.result = rw (← c.requires) (c.first_fault.ensures (owner_fault c.args.links.now) (λ k v l p. search (rules, p))) in
    let f = c.first_fault-2.ensures (repeat_fault c.args.rows.now) (λ k v l p. search (rules, p)) ∙ ap (first (repeat_fault c.args.rows.now)) c.row_count-count.ensures.value in
    goes_on (search rules) (e ∙ ap (first o) c.row_count-count.ensures.value) f
