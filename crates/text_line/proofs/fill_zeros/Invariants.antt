use Prim.Native.Nat.{◌-◌}
use mathlib.Core.Path.{◌≡◌}
use lib.IntN.{pos}
use lib.ListN.{length, replicate}
use lib.Seq.{sets}
use Rattle.text_line.proofs.fill_zeros.Given as goal

abbrev pub invariant-loop-i : goal.invariant-loop-i
invariant-loop-i l = (sets l.rows l.i (replicate (l.to - l.i) (pos 0)) ≡ sets l.initial.rows l.from (replicate (l.to - l.from) (pos 0))) × (length l.rows ≡ length l.initial.rows)
