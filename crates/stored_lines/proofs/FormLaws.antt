-- Laws of a line's letter, count and piece, and of the tests that say whether it is formed. Assumes nothing.
use Prim.Native.Nat.{ℕ, ◌≤◌, ◌<◌}
use mathlib.Core.Bool.{Bool}
use mathlib.Core.List.{List}
use mathlib.Core.Path.{◌≡◌, sym, ap, ◌∙◌}
use borrow.Author.Tests.{lt-ltb, le-ltb}
use lib.Dec.{ltb}
use lib.ListN.{length}
use Rattle.text_fields.specs.Parts.{until_byte}
use Rattle.text_line.specs.Line.{fields_of, spelled}
use Rattle.stored_lines.specs.inner.Line.{body, count, has_count}

-- the parts of a line: b is what follows its letter, f what stands there before the first comma
module _ {b : List ℕ} (l : List ℕ) (e : b ≡ body l) where
  pub body_spelled : {r : Bool} → r ≡ spelled (fields_of b) → r ≡ spelled (fields_of (body l))
  body_spelled h = h ∙ ap (λ (s : List ℕ). spelled (fields_of s)) e

  pub body_short : {r : Bool} → r ≡ ltb (length (fields_of b)) 12 → r ≡ ltb (length (fields_of (body l))) 12
  body_short h = h ∙ ap (λ (s : List ℕ). ltb (length (fields_of s)) 12) e

  module _ {f : List ℕ} (p : f ≡ until_byte 44 b) where
    pub has_more : {n : ℕ} → n ≡ count l → 0 < n → ltb (length f) (length b) ≡ has_count l
    unfolding has_count
    has_more {n} q h = rw (sym q, lt-ltb 0 n h, p, e)

pub has_none : {n : ℕ} (l : List ℕ) → n ≡ count l → n ≤ 0 → ltb 0 n ≡ has_count l
unfolding has_count
has_none {n} l q h = rw (sym q, le-ltb 0 n h)
