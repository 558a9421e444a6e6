use Rattle.acceptance.proofs.Order.{accept_rows, accept_times, indexed_of}
use borrow.Author.Rules.{rules}
use Rattle.acceptance.proofs.accept.Goals as goal

pub returns-in_err-index : goal.returns-in_err-index
returns-in_err-index c = accept_rows _ c.index.ensures {e = c.in_err-index.field-0.0} (search rules) (search rules)

pub new-sheet-requires : goal.new-sheet-requires
new-sheet-requires c = indexed_of _ c.index.ensures (search rules)

pub returns : goal.returns
returns c = accept_times _ c.index.ensures (search rules) (rw c.new-sheet.ensures at c.fill.ensures.verdict)
