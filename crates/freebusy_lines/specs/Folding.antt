-- Another folding of the same lines: where a fold may be put into a text or taken out of it, and which texts differ in their folds alone. Assumes
-- nothing.
use Rattle.std.specs.Prelude.{ℕ, Bool, true, false, ◌&&◌, ◌||◌, not, List, [], ◌∷◌, ◌++◌, ◌≡◌, eqb}
use Rattle.loops.specs.Lists.{is_empty, head, last, option}
use Rattle.freebusy_lines.specs.Lines.{is_blank, is_crlf, starts_blank, lines}

-- the bytes end with a CR, or with a CRLF; they begin with an LF
abbrev pub ends_cr : List ℕ → Bool
ends_cr a = option (last a) false (λ x. eqb x 13)

unfoldable pub ends_crlf : List ℕ → Bool
ends_crlf [] = false
ends_crlf (x ∷ []) = false
ends_crlf (x ∷ y ∷ []) = is_crlf x y
ends_crlf (x ∷ y ∷ z ∷ xs) = ends_crlf (y ∷ z ∷ xs)

abbrev pub starts_lf : List ℕ → Bool
starts_lf b = option (head b) false (λ x. eqb x 10)

-- between a and b a CRLF would be parted
abbrev pub inside_crlf : List ℕ → List ℕ → Bool
inside_crlf a b = ends_cr a && starts_lf b

-- a fold would be, before its blank
abbrev pub inside_fold : List ℕ → List ℕ → Bool
inside_fold a b = ends_crlf a && starts_blank b

-- no line is there: the text is empty, or ends with the CRLF of its last line
abbrev pub no_line : List ℕ → List ℕ → Bool
no_line a b = (is_empty a || ends_crlf a) && is_empty b

-- a fold may stand between a and b: anywhere else
unfoldable pub foldable : List ℕ → List ℕ → Bool
foldable a b = not (inside_crlf a b || (inside_fold a b || no_line a b))

-- texts that differ in their folds alone: folds put in or taken out, one after the other
pub data Refolded : List ℕ → List ℕ → Type 0 where
  as_it_was : {s : List ℕ} → Refolded s s
  put_in : (a b : List ℕ) (blank : ℕ) → is_blank blank ≡ true → foldable a b ≡ true → Refolded (a ++ b) (a ++ 13 ∷ 10 ∷ blank ∷ b)
  taken_out : (a b : List ℕ) (blank : ℕ) → is_blank blank ≡ true → foldable a b ≡ true → Refolded (a ++ 13 ∷ 10 ∷ blank ∷ b) (a ++ b)
  and_then : {s t u : List ℕ} → Refolded s t → Refolded t u → Refolded s u

-- these are exactly the texts that have the same lines
abbrev pub SameLines : Type 0
SameLines = (s t : List ℕ) → (Refolded s t → lines s ≡ lines t) × (lines s ≡ lines t → Refolded s t)
