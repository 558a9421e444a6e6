-- Lines of one width printed one after the other, as the chunks of their numbers come. Assumes nothing.
use Prim.Native.Nat.{ℕ, ◌+◌, ◌*◌, ◌≤◌}
use mathlib.Core.List.{List, ◌++◌}
use mathlib.Core.Path.{◌≡◌, ap, sym, ◌∙◌}
use native.Mathlib.Omega.{arith}
use native.Mathlib.Nat.{suc-mul}
use native.Mathlib.Numerals.{add-one}
use lib.IntN.{ℤ}
use lib.ListN.{length, take, drop, length-append}
use lib.Seq.{take_at, drop-drop, drop-append_seam}
use Rattle.loops.specs.Range.{collect}
use Rattle.loops.specs.inner.Wrote.{Wrote}
use Rattle.loops.proofs.StoreLaws.{wrote_none, wrote_as}
use Rattle.printing.specs.NumberLines.{line_at}
use Rattle.printing.proofs.PutLaws.{wrote_line}

-- of n lines of w numbers each, so many are to come, and `rest` is left of the numbers; each is printed as f
pub record Chunked (f : List ℤ → List ℕ) (w : ℕ) (out₀ : List ℕ) (from : ℕ) (all : List ℤ) (n : ℕ) (out : List ℕ) (at : ℕ) (rest : List ℤ) (to_come : ℕ) : Type 0 where
  pub lines : ℕ
  pub wrote : Wrote out₀ from out at (collect (λ k. f (line_at w all k)) lines)
  pub left : rest ≡ drop (lines * w) all
  pub whole : lines * w + length rest ≡ length all
  pub counted : lines + to_come ≡ n

module _ (f : List ℤ → List ℕ) (w : ℕ) (out₀ : List ℕ) (from : ℕ) (all : List ℤ) (n : ℕ) where
  pub chunked_none : {rest : List ℤ} {c : ℕ} → from ≤ length out₀ → rest ≡ all → c ≡ n → Chunked f w out₀ from all n out₀ from rest c
  unfolding collect
  chunked_none h e d =
      let z : 0 * w ≡ 0 = omega arith in
      record { lines = 0; wrote = wrote_none out₀ from h; left = rw z e; whole = omega (arith, z, ap length e); counted = omega (arith, d) }

module _ {f : List ℤ → List ℕ} {w : ℕ} {out₀ : List ℕ} {from : ℕ} {all : List ℤ} {n : ℕ} {out : List ℕ} {at : ℕ} {rest : List ℤ} {c : ℕ} (p : Chunked f w out₀ from all n out at rest c) where
  pub chunked_next : {line rest' : List ℤ} {out' : List ℕ} {at' c' : ℕ} → rest ≡ line ++ rest' → length line ≡ w → c ≡ c' + 1 → Wrote out at out' at' (f line)
      → Chunked f w out₀ from all n out' at' rest' c'
  unfolding line_at
  chunked_next {line = line} {rest' = rest'} e l d v =
      let s : drop (p.lines * w) all ≡ line ++ rest' = sym p.left ∙ e in
      let m : p.lines * w + w ≡ (p.lines + 1) * w = rw (add-one p.lines) (sym (suc-mul p.lines w)) in
      let k : length rest ≡ length line + length rest' = ap length e ∙ length-append line rest' in
      record {
        lines = p.lines + 1;
        wrote = wrote_line _ p.lines p.wrote (wrote_as (ap f (sym (ap (take w) s ∙ take_at line rest' w l))) v);
        left = sym (ap (λ i. drop i all) (sym m) ∙ sym (drop-drop w (p.lines * w) all) ∙ ap (drop w) s ∙ ap (λ i. drop i (line ++ rest')) (sym l) ∙ drop-append_seam line rest');
        whole = omega (arith, p.whole, m, k, l);
        counted = omega (arith, p.counted, d);
      }

  pub chunked_all : p.lines ≡ n → Wrote out₀ from out at (collect (λ k. f (line_at w all k)) n)
  chunked_all e = wrote_as (ap (collect (λ k. f (line_at w all k))) e) p.wrote
