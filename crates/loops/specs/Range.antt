-- What a loop over the places 0, 1, .. (n - 1) works out. Each recursion takes its last place off, so that one turn more of a loop that
-- counts up is one step more of the definition. Assumes nothing.
use Rattle.std.specs.Prelude.{ℕ, zero, suc, List, [], ◌++◌}

module _ {B : Type 0} where
  -- f (.. (f (f b 0) 1) ..) (n - 1)
  unfoldable pub fold : (B → ℕ → B) → B → ℕ → B
  fold f b zero = b
  fold f b (suc n) = f (fold f b n) n

  -- f 0 ++ f 1 ++ .. ++ f (n - 1)
  unfoldable pub collect : (ℕ → List B) → ℕ → List B
  collect f zero = []
  collect f (suc n) = collect f n ++ f n
