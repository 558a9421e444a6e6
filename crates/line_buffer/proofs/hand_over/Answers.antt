use Rattle.line_buffer.proofs.Handing.{handed_full, handed_longer, handed_over, lines_within, taken_long, taken_within, stored_first}
use borrow.Author.Rules.{rules}
use Rattle.line_buffer.proofs.hand_over.Goals as goal

pub returns-then-count-out : goal.returns-then-count-out
returns-then-count-out c = search (rules, handed_full)

pub returns-then-count-found : goal.returns-then-count-found
returns-then-count-found c = search (rules, handed_longer)

pub overflow_mul-end : goal.overflow_mul-end
overflow_mul-end c = let h = lines_within _ _ _ c.if-count-found.false in search rules

pub slice_bounds-store-end : goal.slice_bounds-store-end
slice_bounds-store-end c = search (rules, taken_long, lines_within)

pub store-requires : goal.store-requires
store-requires c = search (rules, taken_within, lines_within)

pub returns : goal.returns
returns c = search (rules, handed_over, stored_first, lines_within)
