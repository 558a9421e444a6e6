-- What a closure answers, called with places. Assumes nothing.
use Rattle.std.specs.Prelude.{ℕ, ◌<◌, ◌≡◌}

-- whatever it may answer of each place below n is f of the place, as `meant` reads the answer
abbrev pub TellsAs : {A R : Type 0} → (R → A) → ℕ → (ℕ → R → Type 0) → (ℕ → A) → Type 0
TellsAs {A} {R} meant n may f = (k : ℕ) (r : R) → k < n → may k r → meant r ≡ f k
