use borrow.Author.Rules.{rules}
use mathlib.Core.Path.{ap, ◌∙◌}
use Rattle.loops.specs.Lists.{any_of}
use Rattle.chains.proofs.PlaceLaws.{any_blind}
use Rattle.chains.proofs.WalkLaws.{walk_any}
use Rattle.rows.specs.Cells.{row_count}
use Rattle.check7_early_piece.specs.inner.Reached.{starts_at}
use Rattle.check7_early_piece.proofs.Judged.{starts_blind}
use Rattle.check7_early_piece.proofs.starts_before.Goals as goal

pub returns : goal.returns
returns c =
    walk_any _ _ (starts_at c.args.rows.now c.args.k c.args.bound) (λ x r f' k. search rules) c.any.ensures.ran
    ∙ ap (any_of (starts_at c.args.rows.now c.args.k c.args.bound)) c.owned_by.ensures.places
    ∙ any_blind (starts_at c.args.rows.now c.args.k c.args.bound) (row_count c.args.rows.now) (search (rules, starts_blind))
