use borrow.Author.Rules.{rules}
use mathlib.Core.Path.{ap, ◌∙◌}
use Rattle.loops.specs.Lists.{any_of}
use Rattle.rows.specs.Cells.{row_count, num}
use Rattle.owners.specs.inner.Owners.{owned_by}
use Rattle.chains.proofs.WalkLaws.{walk_any, walk_takes}
use Rattle.check7_early_piece.specs.inner.Reached.{unreached_at}
use Rattle.check7_early_piece.proofs.any_unreached.Goals as goal

pub any-requires-clause-callable : goal.any-requires-clause-callable
any-requires-clause-callable c =
    walk_takes (owned_by c.args.pair.now.rows c.args.pair.now.after 23) (row_count c.args.pair.now.rows) _ _ (λ x f' k. search rules) (λ x l h. search rules) c.owned_by.ensures.places

pub returns : goal.returns
returns c =
    let q = unreached_at c.args.pair.now.rows (num c.args.pair.now.rows c.args.pair.now.before 1) c.args.from in
    walk_any _ _ q (λ x r f' k. search rules) c.any.ensures.ran
    ∙ ap (any_of q) c.owned_by.ensures.places
