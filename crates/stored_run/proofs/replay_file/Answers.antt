use Rattle.std.proofs.Common.{rules}
use Rattle.std.specs.Fn.{FnReturnsAt}
use Rattle.stored_run.proofs.Replaying.{file_read}
use Rattle.stored_run.proofs.replay_file.Goals as goal

pub returns-in-Some : goal.returns-in-Some
returns-in-Some g c =
    file_read (FnReturnsAt g.F.Fn c.args.passes.now) c.args.reads c.args.name.now c.read_list-read.new.list c.args.before _ _ _ c.in-Some.n c.replay_list.result
    (search rules) (search rules) (rw c.in-Some.is at c.in_ok-name_unread.ensures.told) c.replay_list.ensures
