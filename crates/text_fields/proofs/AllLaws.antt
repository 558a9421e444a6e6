-- What std's `all` gives of a list, in the words of `all_of`. Assumes nothing.
use Rattle.std.proofs.Common.{◌≡◌, refl, ap, Bool, ◌&&◌, List, [], ◌∷◌}
use Rattle.std.specs.List.{list_all}
use Rattle.loops.specs.Lists.{all_of}

pub all_listed : {A : Type 0} (p : A → Bool) (xs : List A) → list_all p xs ≡ all_of p xs
unfolding all_of
all_listed p [] = refl
all_listed p (x ∷ xs) = ap (λ (b : Bool). p x && b) (all_listed p xs)
