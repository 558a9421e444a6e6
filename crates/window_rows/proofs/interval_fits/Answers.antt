use mathlib.Core.Path.{ap, sym, ◌∙◌}
use mathlib.Core.List.{[], ◌∷◌, ◌++◌, map}
use Rattle.std.proofs.lemmas.List.{append_assoc}
use Rattle.window_rows.proofs.WindowRows.{window_row}
use Rattle.window_rows.proofs.interval_fits.Goals as goal

pub loop-k-preserved : goal.loop-k-preserved
loop-k-preserved c =
    let w = c.loop-k.invariant in
    let l = window_row c.args.rows.now c.in-Some.k ∷ [] in (
      w.0 ++ l,
      rw c.window_of.ensures at (c.add-fit.ensures w.0 c.args.a c.args.e w.1),
      append_assoc w.0 l _ ∙ ap (λ m. w.0 ++ map (window_row c.args.rows.now) m) (sym c.in-Some.ensures.steps) ∙ w.2,
    )
