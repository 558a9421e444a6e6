-- Elements stored by one copy. Assumes nothing.
use Rattle.std.proofs.Common.{◌≡◌, sym, ◌∙◌, ℕ, ◌+◌, ◌≤◌, List, length, take, drop, append_assoc, ap, arith, min, ◌-◌, ◌<◌}
use Rattle.std.proofs.lemmas.List.Edits.{sets, sets-eq}
use lib.Seq.{drop-drop}
use lib.ListN.{drop_of_length-le}
use Rattle.std.proofs.lemmas.List.{take-append-drop}
use lib.Seq.{length-take-le, length-sets}
use native.Mathlib.Decide.{dec_lt}
use Rattle.loops.specs.inner.Wrote.{Wrote}
use Rattle.loops.proofs.StoreLaws.{sets_append, sets_out}
use borrow.Rule.Slice.PartMut.{put_mid}

pub put_stored : {A : Type 0} (at k : ℕ) (xs ys line : List A) → ys ≡ line → k ≡ length line → at + length line ≤ length xs → put_mid at k xs ys ≡ sets xs at line
put_stored at k xs ys line e q h =
    rw (e, q, drop-drop (length line) at xs) (sym (append_assoc (take at xs) line (drop (at + length line) xs)) ∙ sym (sets-eq line xs at h))

-- what goes past the end is not stored
cut : {A : Type 0} (out xs : List A) (at n : ℕ) → at ≤ length out → n ≡ min (length xs) (length out - at) → sets out at (take n xs) ≡ sets out at xs
cut out xs at n h e =
    let l : length (take n xs) ≡ n = length-take-le n xs (omega arith) in
    let z : sets (sets out at (take n xs)) (at + length (take n xs)) (drop n xs) ≡ sets out at (take n xs) = go (dec_lt n (length xs)) in
    sym z ∙ sets_append out at (take n xs) (drop n xs) ∙ ap (sets out at) (take-append-drop n xs)
  where
    go : Dec (n < length xs) → sets (sets out at (take n xs)) (at + length (take n xs)) (drop n xs) ≡ sets out at (take n xs)
    go (yes k) = sets_out (sets out at (take n xs)) (at + length (take n xs)) (drop n xs) (omega (arith, length-sets out at (take n xs), length-take-le n xs (omega arith)))
    go (no k) = rw (drop_of_length-le xs {i = n} (omega arith))

pub wrote_cut : {A : Type 0} (out xs ys : List A) (at n k : ℕ) → at ≤ length out → n ≡ min (length xs) (length out - at) → ys ≡ take n xs → k ≡ n
    → Wrote out at (put_mid at k out ys) (at + n) xs
wrote_cut out xs ys at n k h e q d = record {
  place = omega arith;
  buffer =
      let l : length (take n xs) ≡ n = length-take-le n xs (omega arith) in
      put_stored at k out ys (take n xs) q (d ∙ sym l) (omega (arith, l)) ∙ cut out xs at n h e;
}
