use Rattle.std.specs.Fn.{FnReturnsAt}
use Rattle.stored_run.proofs.Replaying.{FilesSoFar}
use Rattle.stored_run.specs.inner.Replays.{no_cases}
use Rattle.stored_run.proofs.replay_files.Given as goal

abbrev pub invariant-loop-name : goal.invariant-loop-name
invariant-loop-name g l =
    goal.F-IsAlwaysCallable g l.passes
    × FilesSoFar (FnReturnsAt g.F.Fn l.passes) l.reads l.names no_cases (g.W.Write.contents l.fn.out) (g.W.Write.contents l.out) l.name-index l.run
