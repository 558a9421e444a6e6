-- Laws of quoted strings. Assumes nothing.
use Rattle.std.proofs.Common.{◌≡◌, refl, ℕ, ◌+◌, ◌-◌, ◌<◌, ◌≤◌, true, false, List, [], ◌∷◌, length, get_or, take, drop, arith, length-drop, eq-eqb, ne_eqb}
use mathlib.Core.Bool.{and-true, and-false}
use native.Mathlib.Decide.{dec_lt}
use lib.ListN.{drop_of_length-le}
use Rattle.loops.specs.Lists.{is_empty, option}
use Rattle.loops.proofs.ListLaws.{rest_is, not_empty}
use Rattle.text_fields.specs.Parts.{until_byte}
use Rattle.freebusy_lines.specs.Bytes.{after}
use Rattle.freebusy_lines.proofs.AfterLaws.{nothing_after, rest_after}
use Rattle.freebusy_characters.specs.Utf8.{characters}
use Rattle.freebusy_characters.specs.ParamValue.{qsafe_char, quoted_string}

-- whether the first quote of xs ends them
ends : (xs : List ℕ) → length (until_byte 34 xs) + 1 ≡ length xs → option (after 34 xs) false is_empty ≡ true
ends xs h =
    rw (rest_after 34 xs refl (omega arith), rest_is (length (until_byte 34 xs) + 1) xs, drop_of_length-le xs {i = length (until_byte 34 xs) + 1} (omega arith))

ends_not : (xs : List ℕ) → (length (until_byte 34 xs) + 1 ≡ length xs → ⊥) → option (after 34 xs) false is_empty ≡ false
ends_not xs n = go (dec_lt (length (until_byte 34 xs)) (length xs))
  where
    go : Dec (length (until_byte 34 xs) < length xs) → option (after 34 xs) false is_empty ≡ false
    go (yes h) =
        rw (rest_after 34 xs refl h, rest_is (length (until_byte 34 xs) + 1) xs)
        (not_empty (drop (length (until_byte 34 xs) + 1) xs) (simp length-drop (omega arith)))
    go (no k) = rw (nothing_after 34 xs refl (omega arith))

pub quoted_none : (v : List ℕ) → length v < 1 → quoted_string v ≡ false
unfolding quoted_string
quoted_none [] h = refl
quoted_none (x ∷ v) h = absurd (omega arith)

pub quoted_other : (v : List ℕ) → 1 ≤ length v → (get_or v 0 0 ≡ 34 → ⊥) → quoted_string v ≡ false
unfolding quoted_string
quoted_other [] h n = absurd (omega arith)
quoted_other (x ∷ v) h n = rw (ne_eqb x 34 n)

module _ (v t : List ℕ) (h : 1 ≤ length v) (q : get_or v 0 0 ≡ 34) (e : t ≡ until_byte 34 (take (length v - 1) (drop 1 v))) where
  pub quoted_open : (length t + 1 ≡ length (take (length v - 1) (drop 1 v)) → ⊥) → quoted_string v ≡ false
  unfolding quoted_string
  quoted_open = go v h q (rw (rest_is 1 v) at e)
    where
      go : (v : List ℕ) → 1 ≤ length v → get_or v 0 0 ≡ 34 → t ≡ until_byte 34 (drop 1 v) → (length t + 1 ≡ length (take (length v - 1) (drop 1 v)) → ⊥) → quoted_string v ≡ false
      go [] h q e n = absurd (omega arith)
      go (x ∷ xs) h q e n =
          rw (eq-eqb x 34 q, ends_not xs (λ z. n (rw (rest_is 1 (x ∷ xs), e) z))) (and-false (characters qsafe_char (until_byte 34 xs)))

  pub quoted_is : length t + 1 ≡ length (take (length v - 1) (drop 1 v)) → quoted_string v ≡ characters qsafe_char t
  unfolding quoted_string
  quoted_is = go v h q (rw (rest_is 1 v) at e)
    where
      go : (v : List ℕ) → 1 ≤ length v → get_or v 0 0 ≡ 34 → t ≡ until_byte 34 (drop 1 v) → length t + 1 ≡ length (take (length v - 1) (drop 1 v)) → quoted_string v ≡ characters qsafe_char t
      go [] h q e n = absurd (omega arith)
      go (x ∷ xs) h q e n =
          let m : length (until_byte 34 xs) + 1 ≡ length xs = rw (rest_is 1 (x ∷ xs), e) at n in
          rw (eq-eqb x 34 q, ends xs m, e) (and-true (characters qsafe_char (until_byte 34 xs)))

pub ruleset quoted = (quoted_none, quoted_other, quoted_open, quoted_is)
