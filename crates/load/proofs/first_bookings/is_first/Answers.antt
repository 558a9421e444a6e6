use mathlib.Core.Path.{ap, ◌∙◌}
use borrow.Author.Rules.{rules}
use Rattle.loops.specs.Lists.{head, keep}
use Rattle.chains.proofs.WalkLaws.{walk_find}
use Rattle.rows.specs.Cells.{is}
use Rattle.load.proofs.Firsts.{first_told}
use Rattle.load.proofs.first_bookings.is_first.Goals as goal

pub returns : goal.returns
returns c =
    first_told _ _ c.requires.0 c.requires.1 c.num-x.result (search rules)
    (walk_find _ _ (λ i. is c.args.rows.now i 3 c.num-x.result) (λ x r f' k. search rules) _ c.find.ensures.ran
    ∙ ap (λ l. head (keep (λ i. is c.args.rows.now i 3 c.num-x.result) l)) c.of_kind.ensures.places)
    c.eq.ensures
