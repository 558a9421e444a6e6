-- The places that pass a test, as a list: what a walk along a chain goes through. Assumes nothing.
use Rattle.std.specs.Prelude.{ℕ, Bool, List}
use Rattle.loops.specs.Lists.{given}
use Rattle.loops.specs.Range.{collect}

-- the places below n that pass the test, in order
unfoldable pub places : (ℕ → Bool) → ℕ → List ℕ
places p n = collect (λ k. given (p k) k) n
