-- Another folding of the same lines gives the same answer. Assumes nothing.
use Prim.Native.Nat.{ℕ, ◌≤◌}
use mathlib.Core.List.{List}
use mathlib.Core.Path.{◌≡◌}
use lib.ListN.{length}
use borrow.Author.Tests.{le-ltb}
use Rattle.freebusy_lines.specs.Lines.{lines}
use Rattle.freebusy_lines.proofs.FoldingLaws.{folding}
use Rattle.freebusy.specs.Call.{periods_in, closures, freebusy_refusal, freebusy_answer, freebusy_after}
use Rattle.freebusy_laws.specs.Laws.{Alike, FoldingUnseen}

same_lines : (s t : List ℕ) → length s ≤ 65536 → length t ≤ 65536 → lines s ≡ lines t → Alike s t
unfolding freebusy_answer freebusy_after freebusy_refusal periods_in closures
same_lines s t p q e resource lent =
    (rw (le-ltb 65536 (length s) p, le-ltb 65536 (length t) q, e), rw (le-ltb 65536 (length s) p, le-ltb 65536 (length t) q, e))

pub folding_unseen : FoldingUnseen
folding_unseen s t r p q = same_lines s t p q (folding r)
