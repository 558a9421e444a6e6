use mathlib.Core.Path.{ap, ◌∙◌}
use borrow.Author.Rules.{rules}
use Rattle.loops.specs.Lists.{any_of}
use Rattle.loops.proofs.BranchLaws.{or_no}
use Rattle.chains.proofs.WalkLaws.{walk_any}
use Rattle.check3_parts.specs.inner.Booked.{outside_at}
use Rattle.check3_parts.proofs.Findings.{not_more, outside_told}
use Rattle.check3_parts.proofs.is_beyond.Goals as goal

pub returns-else-num-count : goal.returns-else-num-count
returns-else-num-count c =
    or_no (search (rules, not_more))
    (walk_any _ _ (outside_at c.args.rows.now c.args.x) (λ x r f' k. search rules) c.any.ensures.ran
    ∙ ap (any_of (outside_at c.args.rows.now c.args.x)) c.owned_by.ensures.places
    ∙ outside_told _ _ _)
