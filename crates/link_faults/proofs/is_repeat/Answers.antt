use Rattle.link_faults.proofs.Repeats.{by_id, by_pair, by_first, by_second, may_repeat, of_no_kind}
use Rattle.link_faults.proofs.is_repeat.Goals as goal

pub returns-in_default : goal.returns-in_default
returns-in_default c = of_no_kind c.args.rows.now c.args.k c.in_default.ensures

pub returns-in-Task : goal.returns-in-Task
returns-in-Task c = by_id c.args.rows.now c.args.k c.in-Some.ensures c.num-id.ensures.value c.has_earlier.ensures c.in-Task.is

pub returns-then-has_earlier_pair : goal.returns-then-has_earlier_pair
returns-then-has_earlier_pair c =
    by_first c.args.rows.now c.args.k c.in-Some.ensures c.num-id.ensures.value c.num-other.ensures.value c.has_earlier_pair.ensures c.if-has_earlier_pair.true c.in-Speed.is

pub returns-else-has_earlier_pair : goal.returns-else-has_earlier_pair
returns-else-has_earlier_pair c =
    by_second c.args.rows.now c.args.k c.in-Some.ensures c.num-id.ensures.value c.num-other.ensures.value c.has_earlier_pair.ensures c.if-has_earlier_pair.false c.has_earlier_pair-else-has_earlier_pair.ensures c.in-Speed.is

pub returns-in-Transport : goal.returns-in-Transport
returns-in-Transport c =
    by_pair c.args.rows.now c.args.k c.in-Some.ensures c.num-id.ensures.value c.num-other.ensures.value c.has_earlier_pair-in-Transport.ensures c.in-Transport.is

pub returns-in_default-kind : goal.returns-in_default-kind
returns-in_default-kind c =
    let d = c.in_default-kind in
    may_repeat c.args.rows.now c.args.k c.in-Some.ensures d.not-Task d.not-Activity d.not-Overlap d.not-Split d.not-Speed d.not-FixedTiming d.not-Resource d.not-Transport
