use Rattle.std.proofs.Common.{◌≡◌, ◌∙◌, rules, sym, false}
use Rattle.std.proofs.lemmas.Iterator.{YieldsList-from_slice}
use Rattle.std.proofs.lemmas.Iterator.Search.{all_from_yields_List}
use borrow.Author.Tests.{tests}
use Rattle.loops.specs.Lists.{is_empty}
use Rattle.text_fields.proofs.AllLaws.{all_listed}
use Rattle.freebusy_lines.specs.Bytes.{is_name_byte}
use Rattle.freebusy_property.proofs.NameLaws.{empty_is}
use Rattle.freebusy_property.proofs.is_token.Goals as goal

pub returns-then-not-is_empty : goal.returns-then-not-is_empty
returns-then-not-is_empty c =
    let e : is_empty c.args.s.now ≡ false = empty_is c.args.s.now ∙ sym c.is_empty.ensures ∙ c.if-not-is_empty.true in
    all_from_yields_List is_name_byte _ _ _ c.all.ensures.ran (YieldsList-from_slice c.args.s.now (cc)) (λ x b q k. search (rules, tests))
    ∙ all_listed is_name_byte _
    ∙ rw e
