use Rattle.loops.proofs.TableLaws.{seeking_from, first_below}
use Rattle.sheet.proofs.Naming.{name_blind}
use Rattle.sheet.proofs.by_kind.NamedChain.has_earlier.Goals as goal

pub returns : goal.returns
returns c = first_below _ c.requires (seeking_from _ _ _ _ _ _ (name_blind _ _ _) c.first_hashed.ensures c.find_from.ensures)
