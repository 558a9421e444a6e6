use Rattle.std.specs.Prelude.{Ok, Err}
use Rattle.refusals.specs.Refusals.{at}
use Rattle.refusals.specs.declared.Reason.TheVariants.{Full}
use Rattle.std.proofs.Common.{refl, arith}
use Rattle.feasibility.proofs.Top.{Ends, accepted_copy, accepted_all, refused_full}
use borrow.Author.Rules.{rules}
use Rattle.feasibility.proofs.write_findings.Goals as goal

pub returns-in-Over : goal.returns-in-Over
returns-in-Over c =
    let e : Ends c.args.rows.now c.args.out.now (Ok c.check_all-count.result) c.hand_over-handed.new.out =
    accepted_copy _ _ c.requires _ (omega arith) c.check_all-count.ensures c.hand_over-handed.ensures.value refl c.hand_over-handed.ensures.out_after c.in-Over.is in
    record { value = e.0; out_after = e.1 }

pub returns-in-Full : goal.returns-in-Full
returns-in-Full c =
    let e : Ends c.args.rows.now c.args.out.now (Err (at Full 0)) c.hand_over-handed.new.out =
    refused_full _ _ c.requires _ (omega arith) c.check_all-count.ensures c.hand_over-handed.ensures.value c.hand_over-handed.ensures.out_after c.in-Full.is in
    record { value = search (rules, e.0); out_after = e.1 }

pub returns-in-Longer : goal.returns-in-Longer
returns-in-Longer c =
    let e : Ends c.args.rows.now c.args.out.now (Ok c.check_all.result) c.check_all.new.out =
    accepted_all _ _ c.requires _ (omega arith) c.check_all-count.ensures c.hand_over-handed.ensures.value c.hand_over-handed.ensures.out_after c.in-Longer.is c.check_all.ensures in
    record { value = e.0; out_after = e.1 }
