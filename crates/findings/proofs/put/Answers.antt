use Rattle.findings.proofs.SinkLaws.{put_read}
use borrow.Author.Rules.{rules}
use Rattle.findings.proofs.put.Goals as goal

pub returns : goal.returns
returns c = put_read _ _ (search rules) (search rules) (search rules) (search rules) (search rules)
