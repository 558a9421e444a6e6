-- Laws of words and of a name's bytes, letters in either case. Assumes nothing.
use Prim.Native.Nat.{ℕ, suc}
use mathlib.Core.Bool.{Bool, false, ◌&&◌, and-false}
use mathlib.Core.List.{List, [], ◌∷◌}
use mathlib.Core.Path.{◌≡◌, refl, sym, ap}
use native.Mathlib.Omega.{arith}
use lib.Dec.{eqb}
use lib.ListN.{length}
use Rattle.letters.specs.Letters.{capital, is_letter}
use Rattle.std.specs.List.{list_all, zip}
use Rattle.freebusy_lines.specs.Bytes.{spells}

pub other_length : (w s : List ℕ) → (length w ≡ length s → ⊥) → false ≡ spells w s
unfolding spells
other_length [] [] h = absurd (h refl)
other_length [] (x ∷ s) h = refl
other_length (y ∷ w) [] h = refl
other_length (y ∷ w) (x ∷ s) h = rw (sym (other_length w s (λ e. h (ap suc e)))) (sym (and-false (eqb (capital x) y)))

-- words of one length, byte by byte
pub spelled_by_bytes : (w s : List ℕ) → length w ≡ length s → list_all (λ (p : ℕ × ℕ). is_letter p.0 p.1) (zip w s) ≡ spells w s
unfolding spells
spelled_by_bytes [] [] h = refl
spelled_by_bytes [] (x ∷ s) h = absurd (omega arith)
spelled_by_bytes (y ∷ w) [] h = absurd (omega arith)
spelled_by_bytes (y ∷ w) (x ∷ s) h = ap (λ (b : Bool). eqb (capital x) y && b) (spelled_by_bytes w s (omega arith))
