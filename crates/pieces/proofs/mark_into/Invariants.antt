use Prim.Native.Nat.{ℕ}
use mathlib.Core.Bool.{Bool}
use Rattle.loops.specs.inner.Tells.{TellsAs}
use Rattle.rows.specs.Cells.{row_count}
use Rattle.pieces.proofs.Marks.{Marking}
use Rattle.pieces.proofs.mark_into.Given as goal

abbrev pub invariant-loop-k : goal.invariant-loop-k
invariant-loop-k g l = (f : ℕ → Bool) → TellsAs (λ b. b) (row_count l.rows) (goal.F-post g l.test) f → Marking f l.k l.marks
