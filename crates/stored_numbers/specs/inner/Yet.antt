-- What is still to be written to a buffer, as far as it goes. Assumes nothing.
use Rattle.std.specs.Prelude.{ℕ, ◌+◌, ◌≤◌, min, List, ◌≡◌, length}
use Rattle.std.proofs.lemmas.List.Edits.{sets}

-- the buffer was `before` and is `now`: `left`, from `at` on, completes `all` from `from` on
pub record Yet {A : Type 0} (before : List A) (from : ℕ) (all : List A) (now : List A) (at : ℕ) (left : List A) : Type 0 where
  pub place : min (at + length left) (length before) ≡ min (from + length all) (length before)
  pub buffer : sets now at left ≡ sets before from all
  pub long : length now ≡ length before
  pub within : at ≤ length now
