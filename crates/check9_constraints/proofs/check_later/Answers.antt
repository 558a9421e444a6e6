use Rattle.findings.proofs.Reporting.{tell_each}
use Rattle.check9_constraints.proofs.check_later.Goals as goal

pub loop-b-init : goal.loop-b-init
loop-b-init c = tell_each _ _ _
