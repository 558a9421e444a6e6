use Rattle.text_fields.proofs.PartLaws.{split_rest}
use Rattle.text_fields.proofs.split_at_first.Goals as goal

pub returns-clause-rest : goal.returns-clause-rest
returns-clause-rest c = split_rest _ _ _ c.get.ensures.lookup
