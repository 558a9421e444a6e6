use borrow.Author.Rules.{rules}
use Rattle.work_end_inquiry.proofs.Ends.{indexed_of, inquiry_refused}
use Rattle.work_end_inquiry.proofs.work_end.Goals as goal

pub new-requires : goal.new-requires
new-requires c = indexed_of _ c.index.ensures (search rules)

pub returns-in_err-index : goal.returns-in_err-index
returns-in_err-index c = inquiry_refused _ _ _ _ {x = c.in_err-index.field-0.0} c.index.ensures.verdict (search rules) (search rules)
