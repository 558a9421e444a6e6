use mathlib.Core.Path.{sym, ◌∙◌}
use Rattle.std.proofs.Common.{rules}
use Rattle.chains.proofs.PlaceLaws.{places_turn, places_end}
use Rattle.chains.proofs.WalkIterator.next.Goals as goal

pub returns-then-k-self-clause-steps : goal.returns-then-k-self-clause-steps
returns-then-k-self-clause-steps g c = sym c.self.view_is ∙ places_turn _ _ (search rules) c.self.invariant.0 (search rules) c.next_place-self-inside.ensures

pub returns-then-k-self-clause-goes : goal.returns-then-k-self-clause-goes
returns-then-k-self-clause-goes g c =
    let steps = sym c.self.view_is ∙ places_turn _ _ (search rules) c.self.invariant.0 (search rules) c.next_place-self-inside.ensures in
    rw steps (search rules)

pub returns-clause-steps : goal.returns-clause-steps
returns-clause-steps g c =
    let none = sym c.self.view_is ∙ places_end (g.C.Chain.test c.self.inside.chain) c.self.inside.end c.self.inside.at (search rules) in
    (none, none)
