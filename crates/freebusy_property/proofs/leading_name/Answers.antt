use Rattle.std.proofs.Common.{rules, not}
use Rattle.std.proofs.lemmas.Iterator.{YieldsList-from_slice}
use Rattle.std.proofs.lemmas.Iterator.Search.{position_from_yields_List}
use borrow.Author.Tests.{tests}
use Rattle.freebusy_lines.specs.Bytes.{is_name_byte}
use Rattle.freebusy_property.proofs.NameLaws.{leading_position}
use Rattle.freebusy_property.proofs.leading_name.Goals as goal

pub returns : goal.returns
returns c =
    leading_position is_name_byte c.args.l.now
    (position_from_yields_List (λ x. not (is_name_byte x)) _ _ _ c.position.ensures.ran (YieldsList-from_slice c.args.l.now c.iter.ensures.rest) (λ x b q k. search (rules, tests)))
    c.unwrap_or-end.ensures
