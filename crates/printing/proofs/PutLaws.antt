-- Bytes written one after the other. Assumes nothing.
use Rattle.printing.specs.Printed.{accepted_word, printed_accepted}
use Rattle.printing.specs.NumberLines.{field, number_lines}
use native.Mathlib.Omega.{arith}
use Prim.Native.Nat.{ℕ, ◌+◌, ◌/◌, ◌%◌, ◌≤◌, ◌<◌}
use mathlib.Core.List.{List, [], ◌∷◌, ◌++◌}
use mathlib.Core.Path.{◌≡◌, sym, ap, ◌∙◌}
use native.Mathlib.Numerals.{add-one}
use lib.IntN.{ℤ, pos}
use borrow.Author.Tests.{lt-ltb, le-ltb}
use lib.ListN.{length, get_or}
use Rattle.loops.proofs.StoreLaws.{wrote_as, wrote_then}
use Rattle.loops.specs.Range.{collect}
use mir.Syntax.{w64}
use mir.Val.{SFits, to_z, of_z}
use mir.Facts.{to_z-of_z}
use Rattle.printing.specs.Decimal.{decimal, spelling}
use Rattle.printing.proofs.DecimalLaws.{decimal_last, decimal_more}
use Rattle.loops.specs.inner.Wrote.{Wrote}

-- one line more
pub wrote_line : {l m o : List ℕ} {i j k : ℕ} (f : ℕ → List ℕ) (n : ℕ) → Wrote l i m j (collect f n) → Wrote m j o k (f n) → Wrote l i o k (collect f (n + 1))
unfolding collect
wrote_line f n v w = rw (add-one n) (wrote_then (collect f n) (f n) v w)

-- the last of so many lines
pub wrote_upto : {l m : List ℕ} {i j : ℕ} (f : ℕ → List ℕ) (n k : ℕ) → Wrote l i m j (collect f n) → n ≤ k → k ≤ n → Wrote l i m j (collect f k)
wrote_upto f n k v h g = let e : n ≡ k = omega arith in wrote_as (ap (collect f) e) v

-- a number's last digit, alone or after the others
pub wrote_last : {l m : List ℕ} {i j : ℕ} (n d : ℕ) → n < 10 → d ≡ 48 + n → Wrote l i m j (d ∷ []) → Wrote l i m j (decimal n)
wrote_last n d h e v = wrote_as (ap (λ (x : ℕ). x ∷ []) e ∙ sym (decimal_last n h)) v

pub wrote_digit : {l m o : List ℕ} {i j k : ℕ} (n d : ℕ) → 10 ≤ n → d ≡ 48 + n % 10 → Wrote l i m j (decimal (n / 10)) → Wrote m j o k (d ∷ []) → Wrote l i o k (decimal n)
wrote_digit n d h e v w = wrote_as (ap (λ (x : ℕ). decimal (n / 10) ++ x ∷ []) e ∙ sym (decimal_more n h)) (wrote_then (decimal (n / 10)) (d ∷ []) v w)

-- a number of a line, which was read back from its bits, and the byte that ends it
module _ {l m o : List ℕ} {i j k : ℕ} (line : List ℤ) (c : ℕ) (f : SFits w64 (get_or line c (pos 0)))
    (w : Wrote l i m j (spelling (to_z w64 (of_z w64 (get_or line c (pos 0)))))) where
  pub field_more : c + 1 < length line → Wrote m j o k (44 ∷ []) → Wrote l i o k (field line c)
  unfolding field
  field_more h x = rw (lt-ltb (c + 1) (length line) h) (wrote_then (spelling (get_or line c (pos 0))) (44 ∷ []) (rw (to_z-of_z f) at w) x)

  pub field_last : length line ≤ c + 1 → Wrote m j o k (10 ∷ []) → Wrote l i o k (field line c)
  unfolding field
  field_last h x = rw (le-ltb (c + 1) (length line) h) (wrote_then (spelling (get_or line c (pos 0))) (10 ∷ []) (rw (to_z-of_z f) at w) x)

-- what is printed of a sheet that was accepted, piece by piece
pub accepted_put : {l m₁ m₂ m₃ m : List ℕ} {j₁ j₂ j₃ j : ℕ} (n : ℕ) (found : List ℤ) → Wrote l 0 m₁ j₁ accepted_word → Wrote m₁ j₁ m₂ j₂ (decimal n) → Wrote m₂ j₂ m₃ j₃ (10 ∷ [])
    → Wrote m₃ j₃ m j (number_lines 4 found n) → Wrote l 0 m j (printed_accepted n found)
unfolding printed_accepted
accepted_put n found a b c d = wrote_then _ _ (wrote_then _ _ a b) (wrote_then _ _ c d)
