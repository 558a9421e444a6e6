use native.Mathlib.Omega.{arith}
use Rattle.pieces.proofs.Marks.{marking_start, marking_turn, marking_end}
use Rattle.pieces.proofs.mark_into.Goals as goal

pub loop-k-init : goal.loop-k-init
loop-k-init g c = λ f h. marking_start _

pub loop-k-preserved : goal.loop-k-preserved
loop-k-preserved g c = λ f h.
    marking_turn c.args.rows.now f c.row_count-k-end.ensures c.requires.few c.loop-k.marks c.loop-k-test.true
    (h c.loop-k.k c.test.result (omega (arith, c.loop-k-test.true, c.row_count-k-end.ensures)) c.test.ensures)
    (c.loop-k.invariant f h)

pub returns : goal.returns
returns g c = λ f h. marking_end c.args.rows.now f c.row_count-k-end.ensures c.requires.few c.loop-k.k c.loop-k-test.false c.loop-k.auto.k-end (c.loop-k.invariant f h)
