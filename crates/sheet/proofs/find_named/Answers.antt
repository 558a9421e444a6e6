use Rattle.std.proofs.Common.{ℕ}
use mathlib.Core.Path.{ap, sym, ◌∙◌}
use Rattle.sheet.specs.Places.{place_of}
use Rattle.rows.proofs.KindNumbers.{kind_number_is}
use Rattle.sheet.proofs.find_named.Goals as goal

-- the number that stands for the kind is its number
pub returns-in-Ok : goal.returns-in-Ok
returns-in-Ok g c =
    c.find_named.ensures.place ∙ ap (λ (n : ℕ). place_of (g.T.Rows.rows c.args.rows.now) n c.args.id) (sym (kind_number_is c.args.x c.in-Ok.ensures))
