-- Bytes that are read to a room behind those that were read before. Assumes nothing.
use Rattle.std.proofs.Common.{◌≡◌, refl, sym, ap, ◌∙◌, ℕ, ◌+◌, ◌≤◌, Option, List, ◌++◌, length, take, arith}
use lib.Seq.{take-take, take-append-add, length-take-le}
use borrow.Rule.Slice.PartMut.{put_mid}
use Rattle.std.specs.Counts.{IsPrefixLen}
use Rattle.std.specs.Io.KnownBytes.{Consumes}
use Rattle.std.proofs.KnownBytes.{Consumes-trans}
use Rattle.std.proofs.lemmas.Slice.{take-put_mid}

-- So many bytes, if there are as many, are a prefix. The check finds it alone where it is needed; docs/PORT.md names this law.
prefix_len_of_le : (n : ℕ) (xs : List ℕ) → n ≤ length xs → IsPrefixLen n xs
prefix_len_of_le n xs l = (l, sym (length-take-le n xs l))

filled : (n k m : ℕ) (room read : List ℕ) → n ≤ length room → m ≤ length read → take (n + m) (put_mid n k room read) ≡ take n room ++ take m read
filled n k m room read h l =
    sym (take-take (n + m) (n + length read) (put_mid n k room read) (omega (arith, l)))
    ∙ ap (take (n + m)) (take-put_mid n k room read (n + length read) refl h)
    ∙ ap (λ i. take (i + m) (take n room ++ read)) (sym (length-take-le n room h))
    ∙ take-append-add (take n room) read m

-- what was read before and what is read now is what the reader gave
pub read_more : (a b c : Option (List ℕ)) (n k m : ℕ) (room read : List ℕ) → n ≤ length room → m ≤ length read
    → Consumes a b (take n room) → Consumes b c (take m read) → Consumes a c (take (n + m) (put_mid n k room read))
read_more a b c n k m room read h l p q = rw (filled n k m room read h l) (Consumes-trans a b c _ _ p q)
