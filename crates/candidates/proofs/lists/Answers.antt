use borrow.Author.Rules.{rules}
use Rattle.rows.specs.Cells.{is}
use Rattle.candidates.proofs.lists.Goals as goal

pub returns : goal.returns
returns c = c.any_owned.ensures (λ k. is c.args.rows.now k c.args.c c.args.x) (λ k b m. search (rules, m))
