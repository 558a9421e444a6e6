use borrow.Author.Rules.{rules}
use Rattle.check7_pair.proofs.span_of.Goals as goal

pub returns : goal.returns
returns c =
    let e = rw c.args.pair.now.same_rows at c.activity_span.ensures in
    search rules
