-- Written to a buffer from a place on, as far as it goes. Assumes nothing.
use Rattle.std.specs.Prelude.{ℕ, ◌+◌, min, List, ◌≡◌, length}
use Rattle.std.proofs.lemmas.List.Edits.{sets}

-- the buffer was `before` and is `after`; `end` is the place after what was written, or the buffer's end
pub record Wrote {A : Type 0} (before : List A) (at : ℕ) (after : List A) (end : ℕ) (xs : List A) : Type 0 where
  pub place : end ≡ min (at + length xs) (length before)
  pub buffer : after ≡ sets before at xs
