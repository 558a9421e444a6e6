-- Laws of names: what stands before a byte or while a test passes, and what follows it. Assumes nothing.
use Rattle.std.proofs.Common.{◌≡◌, refl, sym, ◌∙◌, ap, ℕ, ◌+◌, Bool, true, false, cond, not, List, [], ◌∷◌, Option, None, Some, length, take, arith}
use native.Mathlib.Numerals.{one-add}
use lib.Dec.{eqb, ltb}
use lib.Seq.{take_all}
use borrow.Author.Tests.{ltb-false, ne_eqb}
use Rattle.std.specs.List.{position_or_len, position}
use Rattle.std.specs.Option.{unwrap_or}
use Rattle.loops.specs.Lists.{is_empty}
use Rattle.freebusy_lines.specs.Bytes.{leading}

module _ (p : ℕ → Bool) where
  leading_place : (xs : List ℕ) → take (position_or_len (λ x. not (p x)) xs) xs ≡ leading p xs
  unfolding leading
  leading_place [] = refl
  leading_place (x ∷ xs) = go (p x) (leading_place xs)
    where
      go : (t : Bool) → take (position_or_len (λ x. not (p x)) xs) xs ≡ leading p xs
          → take (cond (not (not t)) (1 + position_or_len (λ x. not (p x)) xs) 0) (x ∷ xs) ≡ cond t (x ∷ leading p xs) []
      go true e = rw (one-add (position_or_len (λ x. not (p x)) xs)) (ap (λ (l : List ℕ). x ∷ l) e)
      go false e = refl

  pub leading_position : {r : Option ℕ} {n : ℕ} (xs : List ℕ) → r ≡ position (λ x. not (p x)) xs → n ≡ unwrap_or r (length xs) → take n xs ≡ leading p xs
  leading_position xs e q = rw (q, e) (go (ltb (position_or_len (λ x. not (p x)) xs) (length xs)) refl)
    where
      go : (t : Bool) → ltb (position_or_len (λ x. not (p x)) xs) (length xs) ≡ t
          → take (unwrap_or (cond t (Some (position_or_len (λ x. not (p x)) xs)) None) (length xs)) xs ≡ leading p xs
      go true h = leading_place xs
      go false h = take_all (length xs) xs (omega arith) ∙ sym (take_all (position_or_len (λ x. not (p x)) xs) xs (ltb-false _ _ h)) ∙ leading_place xs

pub empty_is : (s : List ℕ) → is_empty s ≡ eqb (length s) 0
empty_is [] = refl
empty_is (x ∷ s) = sym (ne_eqb (length (x ∷ s)) 0 (λ e. omega arith))
