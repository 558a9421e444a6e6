use borrow.Author.Rules.{rules}
use mathlib.Core.Path.{◌∙◌}
use Rattle.rows.specs.Cells.{num, is}
use Rattle.chains.proofs.WalkLaws.{walk_any}
use Rattle.check2_time_only.proofs.Spans.{seen_any}
use Rattle.check2_time_only.proofs.is_seen.Goals as goal

pub returns : goal.returns
returns c =
    walk_any _ _ (λ i. is c.args.rows.now i 2 (num c.args.rows.now c.args.a 2)) (λ x r f' e. search rules) c.any.ensures.ran
    ∙ seen_any c.args.rows.now c.args.a c.requires.0 c.requires.1 c.args.k c.owned_above.ensures.places
