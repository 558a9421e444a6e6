-- The numbers of an answer that is known. Assumes nothing.
use mathlib.Core.Path.{◌≡◌, ap, ◌∙◌}

-- as the call gave it
pub known : {A B : Type 0} (numbers : A → B) {r : B} {a b : A} → a ≡ b → r ≡ numbers a → r ≡ numbers b
known numbers e h = h ∙ ap numbers e
