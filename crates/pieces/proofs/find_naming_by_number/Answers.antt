use borrow.Author.Rules.{rules}
use mathlib.Core.Path.{ap, ◌∙◌}
use Rattle.loops.specs.Lists.{keep, head}
use Rattle.chains.proofs.PlaceLaws.{first_kept}
use Rattle.chains.proofs.WalkLaws.{walk_find}
use Rattle.rows.specs.Cells.{row_count}
use Rattle.pieces.specs.inner.Bookings.{names}
use Rattle.pieces.proofs.find_naming_by_number.Goals as goal

pub returns : goal.returns
returns c =
    let q = names c.args.rows.now c.args.x c.args.a c.args.b in
    walk_find _ _ q (λ x r f' k. search rules) _ c.find.ensures.ran
    ∙ ap (λ l. head (keep q l)) c.owned_by_number.ensures
    ∙ first_kept q (row_count c.args.rows.now) c.requires.1
