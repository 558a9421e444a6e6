use mathlib.Core.Path.{ap, ◌∙◌}
use borrow.Author.Rules.{rules}
use Rattle.loops.specs.Lists.{any_of}
use Rattle.chains.proofs.WalkLaws.{walk_any}
use Rattle.check3_parts.specs.inner.Booked.{without_part}
use Rattle.check3_parts.proofs.Findings.{whole_told}
use Rattle.check3_parts.proofs.is_whole.Goals as goal

pub returns : goal.returns
unfolding without_part
returns c =
    walk_any _ _ (without_part c.args.rows.now) (λ x r f' k. search rules) c.any.ensures.ran
    ∙ ap (any_of (without_part c.args.rows.now)) c.owned_by.ensures.places
    ∙ whole_told _ _
