-- Laws of the bytes that a case's lines give. Assumes nothing.
use Prim.Native.Nat.{ℕ, ◌+◌, ◌<◌}
use mathlib.Core.List.{List, [], ◌∷◌, ◌++◌, map}
use mathlib.Core.Path.{◌≡◌, sym}
use native.Mathlib.Numerals.{add-one}
use borrow.Author.Tests.{eq-eqb, ne_eqb}
use lib.ListN.{length, get_or, drop}
use lib.Seq.{drop-cons}
use Rattle.loops.specs.inner.Wrote.{Wrote}
use Rattle.stored_lines.specs.inner.Line.{letter, count, piece}
use Rattle.stored_numbers.specs.inner.Numbers.{times}
use Rattle.stored_numbers.specs.inner.Yet.{Yet}
use Rattle.stored_numbers.proofs.PutLaws.{yet_less, yet_as}
use Rattle.stored_bytes.specs.inner.Bytes.{meant, bytes_of}

-- the bytes that others stand for: one more of them is written, none is left
pub bytes_less : {l m o : List ℕ} {i j k : ℕ} {all : List ℕ} (s : List ℕ) (n x : ℕ) → n < length s → Yet l i all m j (map meant (drop n s)) → x ≡ meant (get_or s n 0)
    → Wrote m j o k (x ∷ []) → Yet l i all o k (map meant (drop (n + 1) s))
bytes_less s n x h y e w =
    let d : map meant (drop n s) ≡ (x ∷ []) ++ map meant (drop (n + 1) s) = rw (drop-cons s n 0 h, e, add-one n) in
    yet_less (x ∷ []) (map meant (drop (n + 1) s)) (yet_as d y) w

-- what a line gives, by its letter
module _ (l : List ℕ) {x : ℕ} (e : x ≡ letter l) where
  pub gives_bytes : {n : ℕ} {s : List ℕ} → x ≡ 116 → n ≡ count l → s ≡ piece l → times n (map meant s) ≡ bytes_of l
  unfolding bytes_of
  gives_bytes t p q = rw (sym e, eq-eqb x 116 t, p, q)

  pub gives_no_bytes : (x ≡ 116 → ⊥) → [] ≡ bytes_of l
  unfolding bytes_of
  gives_no_bytes d = rw (sym e, ne_eqb x 116 d)
