use mathlib.Core.Path.{refl}
use Rattle.sheet.specs.inner.Index.{name_hash}
use Rattle.sheet.proofs.name_key.Goals as goal

pub returns : goal.returns
unfolding name_hash
returns c = refl
