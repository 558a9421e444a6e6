-- What follows the first byte b of a text, by what stands before it. Assumes nothing.
use Prim.Native.Nat.{ℕ, suc, ◌+◌, ◌-◌, ◌≤◌, ◌<◌}
use mathlib.Core.Bool.{Bool, true, false, cond}
use mathlib.Core.List.{List, [], ◌∷◌}
use Rattle.std.specs.Prelude.{Option, None, Some}
use Rattle.std.specs.Option.{MatchOption}
use denote.Ref.{Bor}
use mathlib.Core.Path.{◌≡◌, refl, ◌∙◌}
use native.Mathlib.Omega.{arith}
use native.Mathlib.Numerals.{add-one}
use lib.Dec.{eqb}
use lib.ListN.{length, drop, take}
use Rattle.text_fields.specs.Parts.{until_byte}
use Rattle.loops.proofs.ListLaws.{rest_is}
use Rattle.freebusy_lines.specs.Bytes.{after}

after_none : (b : ℕ) (s : List ℕ) → length s ≤ length (until_byte b s) → after b s ≡ None
unfolding until_byte after
after_none b [] h = refl
after_none b (x ∷ s) h = go (eqb x b) h (after_none b s)
  where
    go : (t : Bool) → suc (length s) ≤ length (cond t [] (x ∷ until_byte b s)) → (length s ≤ length (until_byte b s) → after b s ≡ None) → cond t (Some s) (after b s) ≡ None
    go true h k = absurd (omega arith)
    go false h k = k (omega arith)

after_some : (b : ℕ) (s : List ℕ) → length (until_byte b s) < length s → after b s ≡ Some (drop (length (until_byte b s) + 1) s)
unfolding until_byte after
after_some b [] h = absurd (omega arith)
after_some b (x ∷ s) h = go (eqb x b) h (after_some b s)
  where
    go : (t : Bool) → length (cond t [] (x ∷ until_byte b s)) < suc (length s) → (length (until_byte b s) < length s → after b s ≡ Some (drop (length (until_byte b s) + 1) s))
        → cond t (Some s) (after b s) ≡ Some (drop (length (cond t [] (x ∷ until_byte b s)) + 1) (x ∷ s))
    go true h k = refl
    go false h k = rw (k (omega arith), add-one (length (until_byte b s)), add-one (suc (length (until_byte b s))))

-- and as the code cuts it off, `&s[p.len() + 1..]`, where p is what stands before it
module _ (b : ℕ) (s : List ℕ) {p : List ℕ} (e : p ≡ until_byte b s) where
  pub nothing_after : length s ≤ length p → after b s ≡ None
  nothing_after h = after_none b s (rw e at h)

  pub rest_after : length p < length s → after b s ≡ Some (take (length s - (length p + 1)) (drop (length p + 1) s))
  rest_after h = rw (rest_is (length p + 1) s, e) (after_some b s (rw e at h))

-- what follows the byte, as `split_at_first` gives it
pub value_after : (b : ℕ) (s n : List ℕ) (r : Option (Bor (List ℕ))) → n ≡ until_byte b s
    → MatchOption r (length s ≤ length n) (λ v. (length n < length s) × (v.now ≡ drop (length n + 1) s)) → MatchOption r (after b s ≡ None) (λ v. after b s ≡ Some v.now)
value_after b s n None e h = nothing_after b s e h
value_after b s n (Some v) e h = rw h.1 (rest_after b s e h.0 ∙ rw (rest_is (length n + 1) s))
