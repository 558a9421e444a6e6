use Rattle.std.proofs.Common.{rules, eqb}
use Rattle.std.proofs.lemmas.Iterator.{YieldsList-from_slice}
use Rattle.std.proofs.lemmas.Iterator.Search.{position_from_yields_List}
use Rattle.text_fields.proofs.PartLaws.{until_position}
use Rattle.text_fields.proofs.first_part.Goals as goal

pub returns : goal.returns
returns c =
    until_position c.args.stop c.args.s.now
    (position_from_yields_List (λ x. eqb x c.args.stop) _ _ _ c.position.ensures.ran (YieldsList-from_slice c.args.s.now c.iter.ensures.rest) (λ x b q k. search rules))
    c.unwrap_or-end.ensures
