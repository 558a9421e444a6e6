use Rattle.loops.proofs.TableLaws.{seeking_from}
use Rattle.sheet.proofs.Naming.{name_blind}
use Rattle.sheet.proofs.by_kind.NamedChainChain.first_place.Goals as goal

pub returns : goal.returns
returns c = seeking_from _ _ _ _ _ _ (name_blind _ _ _) c.first_hashed.ensures c.find_from.ensures
