use borrow.Author.Rules.{rules}
use mathlib.Core.Path.{ap, ◌∙◌}
use Rattle.loops.specs.Lists.{any_of, is_some}
use Rattle.rows.specs.Cells.{row_count}
use Rattle.sheet.specs.Places.{named}
use Rattle.chains.proofs.Passing.{passing_any, among_below}
use Rattle.pieces.proofs.Chains.{first_holds, firsts_told}
use Rattle.pieces.proofs.Holders.is_held.Goals as goal

pub find_passing-requires : goal.find_passing-requires
find_passing-requires c = record {
  callable = λ x a. let l = among_below (named c.args.self.now.rows.now 23 c.num.result) (row_count c.args.self.now.rows.now) x c.named.ensures.places a in search (rules, l);
}

pub returns : goal.returns
returns c =
    let q = first_holds c.args.self.now.rows.now c.args.k in
    c.is_some.ensures
    ∙ ap is_some (c.find_passing.ensures q (record { says = λ x b a e. search (rules, e) }))
    ∙ passing_any q c.named.result
    ∙ ap (any_of q) c.named.ensures.places
    ∙ firsts_told c.args.self.now.rows.now c.args.k c.num.ensures.value
