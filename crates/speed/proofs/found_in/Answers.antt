use mathlib.Core.Path.{sym}
use lib.Seq.{length-take-le}
use borrow.Author.Rules.{rules}
use Rattle.speed.proofs.found_in.Goals as goal

pub slice_bounds-found_of-end : goal.slice_bounds-found_of-end
slice_bounds-found_of-end c = sym (length-take-le _ _ (search rules))
