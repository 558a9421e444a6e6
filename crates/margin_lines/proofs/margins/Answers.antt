use Rattle.acceptance.proofs.Order.{index_of, passed_all}
use Rattle.margin_lines.proofs.Ends.{refused_answer, refused_left}
use borrow.Author.Rules.{rules}
use Rattle.margin_lines.proofs.margins.Goals as goal

pub new-requires : goal.new-requires
new-requires c = index_of _ c.accept.ensures (search rules)

pub write_margins-requires : goal.write_margins-requires
write_margins-requires c = rw c.new.ensures (passed_all _ c.accept.ensures (search rules))

pub returns-in_err-accept : goal.returns-in_err-accept
returns-in_err-accept c =
    record {
      value = refused_answer _ _ {x = c.in_err-accept.field-0.0} c.accept.ensures (search rules) (search rules);
      out_after = refused_left _ _ {x = c.in_err-accept.field-0.0} c.accept.ensures (search rules);
    }
