-- Lines printed one after the other, as chunks of the numbers that are left, of which the last may be short. Assumes nothing.
use Prim.Native.Nat.{ℕ, zero, suc, ◌+◌, ◌*◌, ◌<◌, ◌≤◌, min}
use mathlib.Core.List.{List, [], ◌∷◌, ◌++◌, append-nil}
use mathlib.Core.Path.{◌≡◌, refl, ap, sym, ◌∙◌}
use native.Mathlib.Omega.{arith}
use native.Mathlib.Nat.{suc-mul, add-mul, add-zero}
use native.Mathlib.Numerals.{add-one}
use lib.IntN.{ℤ}
use lib.ListN.{length, take, drop, length-take, length-drop, take-append-drop, drop_of_length-le}
use lib.Seq.{drop-drop, take-nil, take_at, drop_at}
use Rattle.loops.specs.Range.{collect}
use Rattle.printing.specs.NumberLines.{number_line, line_at, number_lines}
use Rattle.loops.specs.inner.Wrote.{Wrote}
use Rattle.loops.proofs.StoreLaws.{wrote_none, wrote_as}
use Rattle.printing.proofs.PutLaws.{wrote_line}

-- of n lines of w numbers each, so many are to come, and `rest` is left of the numbers
pub record Printing (out₀ : List ℕ) (from : ℕ) (numbers : List ℤ) (w n : ℕ) (out : List ℕ) (at : ℕ) (rest : List ℤ) (to_come : ℕ) : Type 0 where
  pub lines : ℕ
  pub wrote : Wrote out₀ from out at (number_lines w numbers lines)
  pub left : rest ≡ drop (lines * w) numbers
  pub counted : lines + to_come ≡ n

pub printing_none : (out₀ : List ℕ) (from : ℕ) (numbers : List ℤ) (w : ℕ) {n c : ℕ} {rest : List ℤ} → from ≤ length out₀ → rest ≡ numbers → c ≡ n
    → Printing out₀ from numbers w n out₀ from rest c
unfolding number_lines collect
printing_none out₀ from numbers w h e d =
    let z : 0 * w ≡ 0 = omega arith in
    record { lines = 0; wrote = wrote_none out₀ from h; left = rw z e; counted = omega (arith, d) }

-- what is left after a line, also where fewer numbers are left than a line has
drop_line : (w : ℕ) (l : List ℤ) → drop (length (take w l)) l ≡ drop w l
drop_line zero l = refl
drop_line (suc w) [] = refl
drop_line (suc w) (x ∷ l) = drop_line w l

-- a chunk is the first w numbers, or all where they are fewer
module _ (w : ℕ) (l line rest : List ℤ) (e : l ≡ line ++ rest) (s : length line ≡ min w (length l)) where
  long : length line ≡ length (take w l)
  long = s ∙ sym (length-take w l)

  parted : line ++ rest ≡ take w l ++ drop w l
  parted = sym e ∙ sym (take-append-drop w l)

  chunk_line : line ≡ take w l
  chunk_line =
      let n = length (take w l) in
      sym (take_at line rest n long) ∙ ap (take n) parted ∙ take_at (take w l) (drop w l) n refl

  chunk_rest : rest ≡ drop w l
  chunk_rest =
      let n = length (take w l) in
      sym (drop_at line rest n long) ∙ ap (drop n) parted ∙ drop_at (take w l) (drop w l) n refl

-- past the numbers no line has a byte
no_more : (w : ℕ) (numbers : List ℤ) (k m : ℕ) → length numbers ≤ k * w → number_lines w numbers k ≡ number_lines w numbers (k + m)
unfolding number_lines collect line_at number_line
no_more w numbers k zero h = ap (number_lines w numbers) (sym (add-zero k))
no_more w numbers k (suc m) h =
    let s : k + suc m ≡ suc (k + m) = omega arith in
    let e : drop ((k + m) * w) numbers ≡ [] = drop_of_length-le numbers (omega (arith, h, add-mul k m w)) in
    let b : number_line (line_at w numbers (k + m)) ≡ [] = ap (λ l. number_line (take w l)) e ∙ ap number_line (take-nil w) in
    no_more w numbers k m h ∙ sym (append-nil (number_lines w numbers (k + m))) ∙ ap (λ l. number_lines w numbers (k + m) ++ l) (sym b) ∙ ap (number_lines w numbers) (sym s)

module _ {out₀ : List ℕ} {from : ℕ} {numbers : List ℤ} {w n : ℕ} {out : List ℕ} {at : ℕ} {rest : List ℤ} {c : ℕ} (p : Printing out₀ from numbers w n out at rest c) where
  pub printing_next : {out' : List ℕ} {at' c' : ℕ} (line : List ℤ) {rest' : List ℤ} → rest ≡ line ++ rest' → length line ≡ min w (length rest) → c' + 1 ≡ c
      → Wrote out at out' at' (number_line line) → Printing out₀ from numbers w n out' at' rest' c'
  unfolding number_lines line_at
  printing_next line {rest' = rest'} e s d v =
      let m : p.lines * w + w ≡ (p.lines + 1) * w = rw (add-one p.lines) (sym (suc-mul p.lines w)) in
      record {
        lines = p.lines + 1;
        wrote = wrote_line _ p.lines p.wrote (wrote_as (ap number_line (chunk_line w rest line rest' e s ∙ ap (take w) p.left)) v);
        left = chunk_rest w rest line rest' e s ∙ ap (drop w) p.left ∙ drop-drop w (p.lines * w) numbers ∙ ap (λ i. drop i numbers) m;
        counted = omega (arith, p.counted, d);
      }

  pub printing_all : (0 < c → length rest ≡ 0) → Wrote out₀ from out at (number_lines w numbers n)
  printing_all h = go c p.counted h
    where
      go : (c : ℕ) → p.lines + c ≡ n → (0 < c → length rest ≡ 0) → Wrote out₀ from out at (number_lines w numbers n)
      go zero d h = wrote_as (ap (number_lines w numbers) (sym (add-zero p.lines) ∙ d)) p.wrote
      go (suc m) d h =
          let k : length numbers ≤ p.lines * w = omega (arith, h (omega arith), ap length p.left, length-drop (p.lines * w) numbers) in
          wrote_as (no_more w numbers p.lines (suc m) k ∙ ap (number_lines w numbers) d) p.wrote
