use Rattle.check4_claims.specs.inner.Claims.{has_skill}
use Rattle.check4_pieces.specs.inner.OfPiece.{both}
use Rattle.check4_claims.proofs.has_skill.Goals as goal

pub returns : goal.returns
unfolding has_skill both
returns c = rw c.by_owner.ensures at c.lists.ensures
