use mathlib.Core.Path.{sym, ap, ◌∙◌}
use Rattle.std.proofs.Common.{rules}
use Rattle.loops.specs.Lists.{head}
use Rattle.chains.proofs.PlaceLaws.{places_here, places_end}
use Rattle.chains.proofs.Walk.peek.Goals as goal

pub returns-then-self : goal.returns-then-self
returns-then-self g c =
    ap head (sym (sym c.self.view_is ∙ places_here (g.C.Chain.test c.self.inside.chain) c.self.inside.end c.self.inside.at (c.self.invariant.0.here (search rules)) (search rules)))

pub returns : goal.returns
returns g c = ap head (sym (sym c.self.view_is ∙ places_end (g.C.Chain.test c.self.inside.chain) c.self.inside.end c.self.inside.at (search rules)))
