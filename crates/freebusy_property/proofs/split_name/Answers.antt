use Rattle.freebusy_lines.proofs.AfterLaws.{value_after}
use Rattle.freebusy_property.proofs.split_name.Goals as goal

pub returns-clause-value : goal.returns-clause-value
returns-clause-value c = value_after _ _ _ _ c.split_at_first.ensures.first c.split_at_first.ensures.rest
