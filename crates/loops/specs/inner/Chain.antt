-- Chains of places: from a place to the next one of the same key. Assumes nothing.
use Rattle.std.specs.Prelude.{ℕ, ◌+◌, ◌<◌, ◌≤◌, ◌≡◌, Bool, true, false, cond, List, [], length, get_or, eqb}

-- place i has the key k
unfoldable pub same : (ℕ → ℕ) → ℕ → ℕ → Bool
same key k i = eqb (key i) k

-- j is the first place from i on at which p holds, and n where there is none below n
pub record First (p : ℕ → Bool) (i n j : ℕ) : Type 0 where
  pub low : i ≤ j
  pub high : j ≤ n
  pub none : (k : ℕ) → i ≤ k → k < j → p k ≡ false
  pub here : j < n → p j ≡ true

-- The chains of the places from i on, of keys below m, as one table: the next place of place j's key stands at j, the first place of key k at 800 + k.
-- The places from n up to 800 hold n.
pub record Links (key : ℕ → ℕ) (m i n : ℕ) (t : List ℕ) : Type 0 where
  pub size : length t ≡ 800 + m
  pub head : (k : ℕ) → k < m → First (same key k) i n (get_or t (800 + k) 0)
  pub next : (j : ℕ) → i ≤ j → j < n → First (same key (key j)) (j + 1) n (get_or t j 0)
  pub past : (j : ℕ) → n ≤ j → j < 800 → get_or t j 0 ≡ n

-- what a loop over a chain knows of its place
pub record Stands (p : ℕ → Bool) (n i : ℕ) : Type 0 where
  pub high : i ≤ n
  pub here : i < n → p i ≡ true

-- ---- steps that do nothing where p fails

-- of a value
pub record Quiet {B : Type 0} (p : ℕ → Bool) (f : B → ℕ → B) : Type 0 where
  pub still : (e : B) (k : ℕ) → p k ≡ false → f e k ≡ e

-- of a list that is put together
pub record Silent {A : Type 0} (p : ℕ → Bool) (f : ℕ → List A) : Type 0 where
  pub still : (k : ℕ) → p k ≡ false → f k ≡ []

-- a test that fails where p fails
pub record Blind (p q : ℕ → Bool) : Type 0 where
  pub still : (k : ℕ) → p k ≡ false → q k ≡ false

-- the step where p holds, else nothing
unfoldable pub only_at : {B : Type 0} → (ℕ → Bool) → (B → ℕ → B) → B → ℕ → B
only_at p f e k = cond (p k) (f e k) e

unfoldable pub only : {A : Type 0} → (ℕ → Bool) → (ℕ → List A) → ℕ → List A
only p f k = cond (p k) (f k) []
