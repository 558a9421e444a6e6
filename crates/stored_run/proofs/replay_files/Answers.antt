use Rattle.std.proofs.Common.{rules}
use Rattle.std.specs.Fn.{FnReturnsAt}
use Rattle.stored_run.proofs.Replaying.{files_further, files_ended}
use Rattle.stored_run.proofs.replay_files.Goals as goal
use Rattle.stored_run.specs.inner.Replays.{no_cases}

pub loop-name-preserved : goal.loop-name-preserved
loop-name-preserved g c = (
  c.loop-name.invariant.0,
  files_further (FnReturnsAt g.F.Fn c.args.passes) c.args.reads c.args.names.now no_cases _ _ _ _ c.loop-name.run _ _ _
      c.loop-name.invariant.1 c.loop-name-test.true (search rules) c.in_ok-run.ensures,
)

pub returns : goal.returns
returns g c =
    files_ended (FnReturnsAt g.F.Fn c.args.passes) c.args.reads c.args.names.now no_cases _ (g.W.Write.contents c.loop-name.out) _ _ _ c.print.result
    c.loop-name.invariant.1 (search rules) (search rules)
