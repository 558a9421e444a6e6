use borrow.Author.Rules.{rules}
use mathlib.Core.Path.{ap, sym, ◌∙◌}
use mathlib.Core.Bool.{not}
use Rattle.std.proofs.Math.Bool.{not-not}
use Rattle.loops.specs.Lists.{any_of, is_some}
use Rattle.chains.proofs.PlaceLaws.{any_blind}
use Rattle.chains.proofs.Passing.{passing_any}
use Rattle.pieces.specs.inner.Bookings.{same_booking}
use Rattle.pieces.proofs.Chains.{same_blind}
use Rattle.pieces.proofs.is_first.Goals as goal

pub returns : goal.returns
returns c =
    let s = same_booking c.args.rows.now c.args.k in
    let none = ap not c.is_none.ensures ∙ not-not c.is_none.result in
    sym none
    ∙ ap (λ r. not (is_some r)) (c.find_passing.ensures s (record { says = λ x b a e. search (rules, e) }))
    ∙ ap not (passing_any s c.named_above.result ∙ ap (any_of s) c.named_above.ensures.places ∙ any_blind s c.args.k (same_blind c.args.rows.now c.args.k c.num.ensures.value))
