use borrow.Author.Rules.{rules}
use mathlib.Core.Path.{ap, ◌∙◌}
use Rattle.loops.specs.Lists.{keep, head}
use Rattle.check9_constraints.proofs.Pairs.{on, first_kept}
use Rattle.check9_constraints.proofs.member_bookings.first_on.Goals as goal

pub returns : goal.returns
returns c =
    let q = on c.args.rows.now c.args.resource in
    c.find_passing.ensures q (record { says = λ x b a e. search (rules, e) })
    ∙ ap (λ l. head (keep q l)) c.named.ensures.places
    ∙ first_kept c.args.rows.now c.args.activity c.args.resource
