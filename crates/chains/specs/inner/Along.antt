-- A search along a chain that a table holds. Assumes nothing.
use Rattle.std.specs.Prelude.{ℕ, suc, ◌<◌, ◌≤◌, ◌≡◌, Bool, true, false, List, get_or}
use Rattle.loops.specs.inner.Chain.{First}

-- from each place below n where p holds the table leads to the next
pub record Along (p : ℕ → Bool) (n : ℕ) (t : List ℕ) : Type 0 where
  pub next : (i : ℕ) → i < n → p i ≡ true → First p (suc i) n (get_or t i 0)

-- from each place below n it leads to a later one
pub record Rising (n : ℕ) (t : List ℕ) : Type 0 where
  pub later : (i : ℕ) → i < n → i < get_or t i 0

-- what a test may answer where p holds is what q says
pub record Means (p q : ℕ → Bool) (may : ℕ → Bool → Type 0) : Type 0 where
  pub says : (i : ℕ) (b : Bool) → p i ≡ true → may i b → b ≡ q i

-- a search from place i on for one below e that passes comes to j: none before it does, and it does if it is below e
pub record Sought (q : ℕ → Bool) (i e n j : ℕ) : Type 0 where
  pub low : i ≤ j
  pub high : j ≤ n
  pub none : (k : ℕ) → i ≤ k → k < j → q k ≡ false
  pub here : j < e → q j ≡ true
