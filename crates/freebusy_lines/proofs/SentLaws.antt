-- Laws of the ends of lines at a place of a text, and of the first line as it is sent. Assumes nothing.
use Prim.Native.Nat.{ℕ, suc, ◌+◌, ◌-◌, ◌≤◌, ◌<◌}
use mathlib.Core.Bool.{Bool, true, false, ◌&&◌, not}
use mathlib.Core.List.{List, [], ◌∷◌, ◌++◌, append-nil, append_assoc}
use mathlib.Core.Path.{◌≡◌, refl, sym, ap, ◌∙◌}
use native.Mathlib.Omega.{arith}
use native.Mathlib.Numerals.{add-one}
use lib.Dec.{eqb, leb}
use lib.ListN.{length, get_or, drop, take, drop_of_length-le}
use lib.Seq.{drop-cons, take-suc, take_all}
use borrow.Author.Rules.{rules}
use borrow.Author.Tests.{le-leb}
use Rattle.freebusy_lines.specs.Lines.{is_blank, is_crlf}
use Rattle.freebusy_lines.specs.inner.Reading.{end_first, first_sent}
use Rattle.loops.proofs.ListLaws.{rest_is}

-- ---- the end of a line, by the first bytes

pub end_is : (s : List ℕ) → end_first s ≡ (leb 2 (length s) && (is_crlf (get_or s 0 0) (get_or s 1 0) && not (leb 3 (length s) && is_blank (get_or s 2 0))))
end_is [] = refl
end_is (x ∷ []) = refl
end_is (x ∷ y ∷ []) = refl
end_is (x ∷ y ∷ z ∷ s) = rw (le-leb 2 (suc (suc (suc (length s)))) (omega arith), le-leb 3 (suc (suc (suc (length s)))) (omega arith))

-- no line ends at another byte than a carriage return
other_first : (x : ℕ) (s : List ℕ) → eqb x 13 ≡ false → end_first (x ∷ s) ≡ false
other_first x [] h = refl
other_first x (y ∷ s) h = rw h

-- ---- the first line, found byte by byte: no line ends before i

pub record Sending (s : List ℕ) (i : ℕ) : Type 0 where
  pub so_far : take i s ++ first_sent (drop i s) ≡ first_sent s

first_here : (s : List ℕ) → end_first s ≡ true → first_sent s ≡ []
unfolding first_sent
first_here [] h = refl
first_here (x ∷ s) h = rw h

module _ {s : List ℕ} where
  pub sending_start : Sending s 0
  sending_start = record { so_far = refl }

  module _ {i : ℕ} (c : Sending s i) where
    module _ {r : Bool} (k : i < length s) (e : r ≡ end_first (take (length s - i) (drop i s))) where
      ended : r ≡ end_first (drop i s)
      ended = e ∙ ap end_first (rest_is i s)

      pub sending_turn : r ≡ false → Sending s (i + 1)
      unfolding first_sent
      sending_turn t = record {
        so_far =
            let d : drop i s ≡ get_or s i 0 ∷ drop (suc i) s = drop-cons s i 0 k in
            let f : first_sent (drop i s) ≡ get_or s i 0 ∷ first_sent (drop (suc i) s) = rw d (rw (ap end_first (sym d) ∙ sym ended ∙ t)) in
            rw (add-one i, take-suc s i 0, append_assoc (take i s) (get_or s i 0 ∷ []) (first_sent (drop (suc i) s)))
            (ap (λ (l : List ℕ). take i s ++ l) (sym f) ∙ c.so_far);
      }

      pub sending_found : r ≡ true → take i s ≡ first_sent s
      sending_found t = sym (append-nil (take i s)) ∙ ap (λ (l : List ℕ). take i s ++ l) (sym (first_here (drop i s) (sym ended ∙ t))) ∙ c.so_far

    -- a byte that is no carriage return
    pub sending_past : i < length s → eqb (get_or s i 0) 13 ≡ false → Sending s (i + 1)
    sending_past k h = sending_turn k (sym (ap end_first (rest_is i s) ∙ rw (drop-cons s i 0 k) (other_first (get_or s i 0) (drop (suc i) s) h))) refl

    pub sending_all : length s ≤ i → s ≡ first_sent s
    unfolding first_sent
    sending_all h = sym (rw (drop_of_length-le s {i = i} h, take_all i s) (append-nil s)) ∙ c.so_far

pub ruleset sendings = (rules, sending_start, sending_turn, sending_past, sending_found, sending_all)
