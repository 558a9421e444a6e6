use Rattle.std.proofs.Common.{◌≡◌, false, get_or, arith}
use Rattle.std.proofs.lemmas.Bool.Decides.{nat_tests}
use Rattle.freebusy_property.specs.Quotes.{quoted_after, parting}
use Rattle.freebusy_property.proofs.QuoteLaws.{found_before, found_after, seeking_on, ended_before, ended_after}
use Rattle.freebusy_property.proofs.quotes.split_unquoted.Goals as goal

pub returns-then-x-stop-clause-before : goal.returns-then-x-stop-clause-before
returns-then-x-stop-clause-before c = found_before _ _ _ _ c.loop-i.invariant (omega arith) c.if-not-quoted.true c.if-x-stop.true

pub returns-then-x-stop-clause-after : goal.returns-then-x-stop-clause-after
returns-then-x-stop-clause-after c = found_after _ _ _ _ c.loop-i.invariant (omega arith) c.if-not-quoted.true c.if-x-stop.true

pub loop-i-preserved : goal.loop-i-preserved
loop-i-preserved c =
    let t : parting c.loop-i.quoted c.args.stop (get_or c.args.s.now c.loop-i.i 0) ≡ false = grind (arith, nat_tests) in
    let f : c.if-x-eq-QUOTE.quoted ≡ quoted_after c.loop-i.quoted (get_or c.args.s.now c.loop-i.i 0) = grind (arith, nat_tests) in
    seeking_on c.args.s.now c.args.stop c.loop-i.i c.loop-i.quoted c.loop-i.invariant (omega arith) c.if-x-eq-QUOTE.quoted t f

pub returns-clause-before : goal.returns-clause-before
returns-clause-before c = ended_before _ _ _ _ c.loop-i.invariant (omega arith)

pub returns-clause-after : goal.returns-clause-after
returns-clause-after c = ended_after _ _ _ _ c.loop-i.invariant (omega arith)
