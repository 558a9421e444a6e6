-- What is written to a buffer, one after the other. Assumes nothing.
use Prim.Native.Nat.{ℕ, suc, ◌+◌, ◌-◌, ◌≤◌, ◌<◌, min}
use mathlib.Core.List.{List, [], ◌∷◌, ◌++◌}
use mathlib.Core.Path.{◌≡◌, refl, sym, ap, subst, ◌∙◌}
use native.Mathlib.Omega.{arith}
use native.Mathlib.Decide.{dec_lt}
use borrow.Author.Tests.{le-ltb}
use lib.IntN.{ℤ, pos}
use mir.Syntax.{w64}
use mir.Val.{SFits, to_z, of_z}
use mir.Facts.{to_z-of_z}
use lib.ListN.{length, replicate, length-append, length-map}
use lib.Seq.{sets, length-sets}
use Rattle.loops.proofs.StoreLaws.{sets_append, sets_min, sets_out, wrote_long, wrote_within, wrote_as, wrote_then}
use Rattle.text_line.specs.Line.{fields_of, value_of, row_of}
use Rattle.stored_numbers.specs.inner.Numbers.{times, numbers_in, gathered}
use Rattle.std.specs.Prelude.{Option}
use Rattle.loops.specs.inner.Wrote.{Wrote}
use Rattle.stored_numbers.specs.inner.Yet.{Yet}

module _ {A : Type 0} where
  -- where the buffer is full, nothing more is written
  pub wrote_full : {l m : List A} {i j : ℕ} (a b : List A) → length l ≤ i + length a → Wrote l i m j a → Wrote l i m j (a ++ b)
  wrote_full {l = l} {i = i} a b h v =
      record {
        place = simp length-append (omega (arith, v.place));
        buffer = v.buffer ∙ sym (sets_out (sets l i a) (i + length a) b (omega (arith, length-sets l i a))) ∙ sets_append l i a b;
      }

  -- what is told of all that was written from the start on; that may be written another way
  told_of : {l m : List A} {n : ℕ} {r : Option ℕ} (xs : List A) → Wrote l 0 m n xs → r ≡ gathered n (length m) → r ≡ gathered (length xs) (length l)
  told_of {l = l} {m = m} {n = n} xs v t = t ∙ go (dec_lt (length xs) (length l))
    where
      go : Dec (length xs < length l) → gathered n (length m) ≡ gathered (length xs) (length l)
      go (yes h) = let e : n ≡ length xs = omega (arith, v.place) in rw (wrote_long v, e)
      go (no h) =
          let e : length l ≤ n = omega (arith, v.place) in
          rw (wrote_long v, le-ltb n (length l) e, le-ltb (length xs) (length l) (omega arith))

  pub told_all : {l m : List A} {n : ℕ} {r : Option ℕ} (xs ys : List A) → Wrote l 0 m n xs → xs ≡ ys → r ≡ gathered n (length m) → r ≡ gathered (length ys) (length l)
  told_all xs ys v e t = told_of ys (wrote_as e v) t

  -- all is yet to be written; something of it is written; nothing is left
  pub yet_all : (l : List A) (at : ℕ) (all : List A) → at ≤ length l → Yet l at all l at all
  yet_all l at all h = record { place = refl; buffer = refl; long = refl; within = h }

  pub yet_less : {l m o : List A} {i j k : ℕ} {all : List A} (a b : List A) → Yet l i all m j (a ++ b) → Wrote m j o k a → Yet l i all o k b
  yet_less {l = l} {m = m} {o = o} {i = i} {j = j} {k = k} {all = all} a b y w =
      record {
        place = let e : length (a ++ b) ≡ length a + length b = length-append a b in omega (arith, y.place, y.long, w.place, e);
        buffer =
            rw (w.buffer, w.place)
            (ap (λ (n : ℕ). sets (sets m j a) (min (j + length a) n) b) (sym (length-sets m j a)) ∙ sets_min (sets m j a) (j + length a) b ∙ sets_append m j a b ∙ y.buffer);
        long = wrote_long w ∙ y.long;
        within = wrote_within a w;
      }

  pub yet_none : {l m : List A} {i j : ℕ} {all : List A} → Yet l i all m j [] → Wrote l i m j all
  yet_none {l = l} {m = m} {i = i} {j = j} {all = all} y = record { place = omega (arith, y.place, y.long, y.within); buffer = y.buffer }

  pub yet_as : {l m : List A} {i j : ℕ} {all a b : List A} → a ≡ b → Yet l i all m j a → Yet l i all m j b
  yet_as {l = l} {m = m} {i = i} {j = j} {all = all} e y = subst (λ (x : List A). Yet l i all m j x) e y

  -- so often, one time less
  pub times_next : (n i : ℕ) (xs : List A) → i < n → times (n - i) xs ≡ xs ++ times (n - (i + 1)) xs
  unfolding times
  times_next n i xs h = let e : n - i ≡ suc (n - (i + 1)) = omega arith in rw e

  pub times_done : (n i : ℕ) (xs : List A) → n ≤ i → times (n - i) xs ≡ []
  unfolding times
  times_done n i xs h = let e : n - i ≡ 0 = omega arith in rw e

  pub replicate_next : (n i : ℕ) (x : A) → i < n → replicate (n - i) x ≡ (x ∷ []) ++ replicate (n - (i + 1)) x
  replicate_next n i x h = let e : n - i ≡ suc (n - (i + 1)) = omega arith in rw e

-- a signed number that was read back from its bits
pub wrote_back : {l m : List ℤ} {i j : ℕ} {v w : ℤ} → SFits w64 v → v ≡ w → Wrote l i m j (to_z w64 (of_z w64 v) ∷ []) → Wrote l i m j (w ∷ [])
wrote_back f e x = wrote_as (ap (λ (z : ℤ). z ∷ []) (to_z-of_z f ∙ e)) x

-- a row: its numbers, then zeros up to ten
pub row_zeros : {l m o : List ℤ} {at end r z : ℕ} (s : List ℕ) → at ≤ length l → Wrote l at m end (numbers_in s) → z ≡ 10 - (end - at) → Wrote m end o r (replicate z (pos 0)) → Wrote l at o r (row_of s)
unfolding row_of
row_zeros {l = l} {m = m} {o = o} {at = at} {end = end} {r = r} s h v q u = go (dec_lt (length l) (at + length (numbers_in s)))
  where
    w : Wrote m end o r (replicate (10 - (end - at)) (pos 0))
    w = rw q at u

    n : length (numbers_in s) ≡ length (fields_of s)
    n = length-map (fields_of s) value_of

    go : Dec (length l < at + length (numbers_in s)) → Wrote l at o r (numbers_in s ++ replicate (10 - length (fields_of s)) (pos 0))
    go (yes k) =
        let e : end ≡ length m = omega (arith, v.place, wrote_long v) in
        let u : Wrote l at o r (numbers_in s) = record {
          place = omega (arith, v.place, w.place, wrote_long v, e);
          buffer = w.buffer ∙ sets_out m end (replicate (10 - (end - at)) (pos 0)) (omega (arith, e)) ∙ v.buffer;
        } in
        wrote_full (numbers_in s) (replicate (10 - length (fields_of s)) (pos 0)) (omega arith) u
    go (no k) =
        let e : 10 - (end - at) ≡ 10 - length (fields_of s) = omega (arith, v.place, n) in
        wrote_then (numbers_in s) (replicate (10 - length (fields_of s)) (pos 0)) v (rw e at w)
