use Rattle.rows.specs.Cells.{num}
use Rattle.check7_early_piece.proofs.Judged.{by_bookings, by_nowhere, by_span}
use Rattle.check7_early_piece.proofs.piece_is_early.Goals as goal

pub returns-then-has_owned : goal.returns-then-has_owned
returns-then-has_owned c =
    let p = c.args.pair.now in
    by_bookings p.rows p.accepted p.after p.after_is.0 p.after_is.1 (num p.rows p.before 1) c.args.from c.has_owned.ensures c.if-has_owned.true c.any_unreached.ensures

pub returns-in_default : goal.returns-in_default
returns-in_default c =
    let p = c.args.pair.now in
    by_nowhere p.rows p.accepted p.after p.after_is.0 p.after_is.1 (num p.rows p.before 1) c.args.from c.has_owned.ensures c.if-has_owned.false
    c.num-id.ensures.value (rw p.same_rows at c.activity_span.ensures) c.in_default.is

pub returns : goal.returns
returns c =
    let p = c.args.pair.now in
    by_span p.rows p.accepted p.after p.after_is.0 p.after_is.1 (num p.rows p.before 1) c.args.from c.has_owned.ensures c.if-has_owned.false
    c.num-id.ensures.value (rw p.same_rows at c.activity_span.ensures) c.in-Between.is
