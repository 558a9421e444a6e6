use Rattle.std.proofs.Common.{◌≡◌}
use Rattle.std.specs.Fn.{FnReturnsAt}
use Rattle.stored_run.proofs.Replaying.{CasesSoFar}
use Rattle.stored_run.proofs.replay_list.Given as goal

abbrev pub invariant-loop-case : goal.invariant-loop-case
invariant-loop-case g l =
    goal.F-IsAlwaysCallable g l.passes
    × (l.case-iterator.list.now ≡ l.list)
    × CasesSoFar (FnReturnsAt g.F.Fn l.passes) l.reads l.name l.list l.fn.before (g.W.Write.contents l.fn.out) (g.W.Write.contents l.out) l.case-iterator.at l.run
