use mathlib.Core.Path.{◌≡◌}
use Rattle.std.proofs.Common.{rules}
use Rattle.loops.proofs.SearchLaws.{first_zero, first_miss, first_done}
use Rattle.refusals.specs.Refusals.{verdict_of}
use Rattle.validation.proofs.Order.{stops, passed}
use Rattle.validation.proofs.first_fault.Goals as goal

pub loop-k-init : goal.loop-k-init
loop-k-init g c = λ f t. first_zero f

pub returns-in_err-fault : goal.returns-in_err-fault
returns-in_err-fault g c = λ f t.
    let e : verdict_of c.fault.result ≡ f c.loop-k.k = t _ _ (search rules) c.fault.ensures in
    let h = c.loop-k.invariant f t in
    search (rules, stops, e, h)

pub loop-k-preserved : goal.loop-k-preserved
loop-k-preserved g c = λ f t. first_miss f _ (c.loop-k.invariant f t) (passed (search rules) (t _ _ (search rules) c.fault.ensures))

pub returns : goal.returns
returns g c = λ f t. let h = c.loop-k.invariant f t in search (rules, first_done, h)
