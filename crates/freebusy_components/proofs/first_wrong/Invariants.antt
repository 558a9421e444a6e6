use mathlib.Core.Path.{◌≡◌}
use Rattle.std.specs.Prelude.{None}
use Rattle.freebusy_lines.specs.Lines.{lines}
use Rattle.freebusy_lines.specs.inner.Sent.{lines_left}
use Rattle.freebusy_components.specs.Components.{least, wrong_from}
use Rattle.freebusy_components.proofs.WalkLaws.{Unfolding, unfolded_all}
use Rattle.freebusy_components.proofs.first_wrong.Given as goal

abbrev pub invariant-loop-p : goal.invariant-loop-p
invariant-loop-p l =
    Unfolding l.text l.initial.space (lines_left l.p-iterator.iter) l.space
    × (least l.w.wrong (wrong_from l.w.begun l.p-iterator.count (unfolded_all (lines_left l.p-iterator.iter))) ≡ wrong_from None 0 (lines l.text))
