-- Kinds and their numbers. Assumes nothing.
use Rattle.std.proofs.Common.{◌≡◌, ℕ, zero, suc, ◌+◌, ◌<◌, ◌≤◌, Bool, true, ◌&&◌, List, [], ◌∷◌, length, refl, sym, ap, ◌∙◌, arith}
use Rattle.std.specs.Prelude.{None, Some, slice_get}
use Rattle.std.specs.Option.{is_some}
use Rattle.std.proofs.lemmas.Option.{slice_get_past}
use Rattle.std.proofs.lemmas.Bool.Decides.{nat_tests}
use borrow.Author.Tests.{eqb-true, le-ltb, lt-ltb, le-leb}
use lib.Dec.{eqb, leb, ltb}
use mathlib.Core.Bool.{false≢true}
use Rattle.loops.proofs.BoolLaws.{and_left, and_right}
use Rattle.rows.specs.declared.Kind.{Kind}
use Rattle.rows.specs.Kinds.{kinds, kind_of, kind_number}

-- 0 and what comes after 24 stand for no kind
pub kind_past : (n : ℕ) → (0 < n → 25 ≤ n) → kind_of n ≡ None
kind_past zero h = refl
kind_past (suc n) h = let l : 25 ≤ suc n = h (omega arith) in slice_get_past kinds n (omega arith)

listed : (xs : List Kind) (n : ℕ) → is_some (slice_get xs n) ≡ ltb n (length xs)
listed [] n = sym (le-ltb n 0 (omega arith))
listed (x ∷ xs) zero = sym (lt-ltb 0 (length (x ∷ xs)) (omega arith))
listed (x ∷ xs) (suc n) =
    let e : ltb (suc n) (suc (length xs)) ≡ ltb n (length xs) = grind (arith, nat_tests) in
    listed xs n ∙ sym e

pub is_known : (n : ℕ) → is_some (kind_of n) ≡ (leb 1 n && leb n 24)
is_known zero = refl
is_known (suc n) = rw (le-leb 1 (suc n) (omega arith)) (listed kinds n)

-- a number from 1 to 24 stands for a kind
pub kind_there : (n : ℕ) → kind_of n ≡ None → 0 < n → n ≤ 24 → ⊥
kind_there n e a b = false≢true (sym (ap is_some e) ∙ is_known n ∙ rw (le-leb 1 n (omega arith), le-leb n 24 b))

-- the kinds of a list count up from m
abbrev counts : ℕ → List Kind → Bool
counts m [] = true
counts m (x ∷ xs) = eqb (kind_number x) m && counts (suc m) xs

counted : (m n : ℕ) (xs : List Kind) {x : Kind} → counts m xs ≡ true → slice_get xs n ≡ Some x → kind_number x ≡ m + n
counted m n [] h e = let z : ◌≡◌ {A = ℕ} 0 1 = cc in absurd (omega arith)
counted m zero (y ∷ xs) {x} h e =
    let q : x ≡ y = cc in
    ap kind_number q ∙ eqb-true (kind_number y) m (and_left (eqb (kind_number y) m) (counts (suc m) xs) h) ∙ (omega arith)
counted m (suc n) (y ∷ xs) h e = counted (suc m) n xs (and_right (eqb (kind_number y) m) (counts (suc m) xs) h) e ∙ (omega arith)

-- the number that stands for a kind is the kind's
pub kind_number_is : (n : ℕ) {x : Kind} → kind_of n ≡ Some x → n ≡ kind_number x
kind_number_is zero e = let z : ◌≡◌ {A = ℕ} 0 1 = cc in absurd (omega arith)
kind_number_is (suc n) e = omega (arith, counted 1 n kinds refl e)
