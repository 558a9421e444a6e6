-- What a loop along a chain knows of the places that are left. Assumes nothing.
use Rattle.std.specs.Prelude.{ℕ, suc, ◌<◌, ◌≡◌, Bool, true, ◌&&◌, List, [], ◌∷◌, leb, ⊤}
use Rattle.loops.specs.inner.Chain.{First}

-- place k is no earlier than i and passes the test
unfoldable pub from : ℕ → (ℕ → Bool) → ℕ → Bool
from i p k = leb i k && p k

-- the first place of a list, n where it is empty
abbrev pub front : ℕ → List ℕ → ℕ
front n [] = n
front n (k ∷ l) = k

-- each place of the list is below n and passes the test, and the next place of the list is the next below n that does
abbrev pub Left : (ℕ → Bool) → ℕ → List ℕ → Type 0
Left p n [] = ⊤
Left p n (k ∷ l) = (k < n) × (p k ≡ true) × First p (suc k) n (front n l) × Left p n l
