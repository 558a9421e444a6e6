use mathlib.Core.Path.{◌≡◌, ◌∙◌}
use native.Mathlib.Omega.{arith}
use mir.Syntax.{w64}
use mir.Val.{to_z, of_z}
use Rattle.rows.specs.Cells.{cell}
use mir.Facts.{to_z-of_z}
use borrow.Author.Rules.{sfits_of}
use Rattle.model.proofs.Accepting.{accepted}
use Rattle.check1_assignments.proofs.Summing.{add_at, added_fits, added_size}
use Rattle.check1_assignments.proofs.KnownBooking.quantity.Goals as goal

pub overflow_add-sum : goal.overflow_add-sum
overflow_add-sum c =
    let acc = accepted _ (rw c.deref.ensures at c.owned_by-q-items.ensures.known.0) in
    let e = c.in-Some.ensures.steps in
    let h = rw e at c.loop-q.invariant in
    rw (to_z-of_z (sfits_of c.cell-sum.type_inv), c.cell-sum.ensures, c.deref-in-loop-q.ensures) (added_fits _ acc _ _ h.0.1 _ h.1 (omega (arith, h.0.0, acc.short)))

pub loop-q-preserved : goal.loop-q-preserved
unfolding add_at
loop-q-preserved c =
    let acc = accepted _ (rw c.deref.ensures at c.owned_by-q-items.ensures.known.0) in
    let e = c.in-Some.ensures.steps in
    let h = rw e at c.loop-q.invariant in
    let i : to_z w64 (of_z w64 c.cell-sum.result) ≡ cell c.args.self.now.rows.now c.in-Some.q 3 = to_z-of_z {w = w64} (sfits_of c.cell-sum.type_inv) ∙ rw c.deref-in-loop-q.ensures at c.cell-sum.ensures in
    let s = added_size c.args.self.now.rows.now acc c.args.self.now.activity c.in-Some.q h.0.1 (to_z w64 c.loop-q.sum-bits) h.1 in
    let f = added_fits c.args.self.now.rows.now acc c.args.self.now.activity c.in-Some.q h.0.1 (to_z w64 c.loop-q.sum-bits) h.1 (omega (arith, h.0.0, acc.short)) in
    rw (i, to_z-of_z f) (h.0.3, omega (arith, s, h.0.2.low), h.2)
