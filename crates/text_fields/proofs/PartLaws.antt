-- Laws of a text's parts. Assumes nothing.
use Prim.Native.Nat.{ℕ, suc, ◌+◌, ◌-◌, ◌≤◌, ◌<◌}
use mathlib.Core.Bool.{Bool, true, false, cond, not}
use mathlib.Core.List.{List, [], ◌∷◌}
use mathlib.Core.Path.{◌≡◌, refl, sym, ap, ◌∙◌}
use native.Mathlib.Omega.{arith}
use native.Mathlib.Numerals.{add-one, one-add}
use lib.Dec.{eqb, ltb}
use lib.ListN.{length, drop, take, length-drop}
use lib.Seq.{take_all}
use borrow.Author.Tests.{ltb-false}
use Rattle.std.specs.List.{position_or_len, position}
use Rattle.std.specs.Prelude.{Option, None, Some}
use Rattle.std.specs.Option.{MatchOption, unwrap_or}
use Rattle.std.specs.Slice.{IsGetRangeResult}
use mathlib.Core.Logic.{inl, inr}
use denote.Ref.{Bor}
use Rattle.text_fields.specs.Parts.{until_byte, parts, parts_left, on_first}

-- the first part ends at the first b, or at the end
until_place : (b : ℕ) (xs : List ℕ) → take (position_or_len (λ x. eqb x b) xs) xs ≡ until_byte b xs
unfolding until_byte
until_place b [] = refl
until_place b (x ∷ xs) = go (eqb x b) (until_place b xs)
  where
    go : (t : Bool) → take (position_or_len (λ x. eqb x b) xs) xs ≡ until_byte b xs
        → take (cond (not t) (1 + position_or_len (λ x. eqb x b) xs) 0) (x ∷ xs) ≡ cond t [] (x ∷ until_byte b xs)
    go true e = refl
    go false e = rw (one-add (position_or_len (λ x. eqb x b) xs)) (ap (λ (l : List ℕ). x ∷ l) e)

pub until_position : {r : Option ℕ} {n : ℕ} (b : ℕ) (xs : List ℕ) → r ≡ position (λ x. eqb x b) xs → n ≡ unwrap_or r (length xs) → take n xs ≡ until_byte b xs
until_position b xs e q = rw (q, e) (go (ltb (position_or_len (λ x. eqb x b) xs) (length xs)) refl)
  where
    go : (t : Bool) → ltb (position_or_len (λ x. eqb x b) xs) (length xs) ≡ t
        → take (unwrap_or (cond t (Some (position_or_len (λ x. eqb x b) xs)) None) (length xs)) xs ≡ until_byte b xs
    go true h = until_place b xs
    go false h = take_all (length xs) xs (omega arith) ∙ sym (take_all (position_or_len (λ x. eqb x b) xs) xs (ltb-false _ _ h)) ∙ until_place b xs

-- the first part is no longer than the text
pub up_within : (b : ℕ) (xs : List ℕ) → length (until_byte b xs) ≤ length xs
unfolding until_byte
up_within b [] = omega arith
up_within b (x ∷ xs) = go (eqb x b) (up_within b xs)
  where
    go : (t : Bool) → length (until_byte b xs) ≤ length xs → length (cond t [] (x ∷ until_byte b xs)) ≤ suc (length xs)
    go true h = omega arith
    go false h = omega arith

-- where the first part is all of the text, it is the only one
pub parts_last : (b : ℕ) (xs : List ℕ) → length (until_byte b xs) ≡ length xs → parts b xs ≡ until_byte b xs ∷ []
unfolding until_byte parts
parts_last b [] h = refl
parts_last b (x ∷ xs) h = go (eqb x b) h (parts_last b xs)
  where
    go : (t : Bool) → length (cond t [] (x ∷ until_byte b xs)) ≡ suc (length xs) → (length (until_byte b xs) ≡ length xs → parts b xs ≡ until_byte b xs ∷ [])
        → cond t ([] ∷ parts b xs) (on_first x (parts b xs)) ≡ cond t [] (x ∷ until_byte b xs) ∷ []
    go true e k = absurd (omega arith)
    go false e k = rw (k (omega arith))

pub parts_only : (b : ℕ) (xs f : List ℕ) → f ≡ until_byte b xs → length xs ≤ length f → parts b xs ≡ f ∷ []
parts_only b xs f e h = rw e (parts_last b xs (omega (arith, up_within b xs, rw e at h)))

-- else what follows its end has the others
pub parts_more : (b : ℕ) (xs : List ℕ) → length (until_byte b xs) < length xs → parts b xs ≡ until_byte b xs ∷ parts b (drop (length (until_byte b xs) + 1) xs)
unfolding until_byte parts
parts_more b [] h = absurd (omega arith)
parts_more b (x ∷ xs) h = go (eqb x b) h (parts_more b xs)
  where
    go : (t : Bool) → length (cond t [] (x ∷ until_byte b xs)) < suc (length xs)
        → (length (until_byte b xs) < length xs → parts b xs ≡ until_byte b xs ∷ parts b (drop (length (until_byte b xs) + 1) xs))
        → cond t ([] ∷ parts b xs) (on_first x (parts b xs)) ≡ cond t [] (x ∷ until_byte b xs) ∷ parts b (drop (length (cond t [] (x ∷ until_byte b xs)) + 1) (x ∷ xs))
    go true e k = refl
    go false e k = rw (k (omega arith), add-one (length (until_byte b xs)), add-one (suc (length (until_byte b xs))))

-- the parts begin with the first
pub parts_first : (b : ℕ) (xs : List ℕ) → (ps : List (List ℕ)) × (parts b xs ≡ until_byte b xs ∷ ps)
unfolding until_byte parts
parts_first b [] = ([], refl)
parts_first b (x ∷ xs) = go (eqb x b) (parts_first b xs)
  where
    go : (t : Bool) → ((ps : List (List ℕ)) × (parts b xs ≡ until_byte b xs ∷ ps))
        → (ps : List (List ℕ)) × (cond t ([] ∷ parts b xs) (on_first x (parts b xs)) ≡ cond t [] (x ∷ until_byte b xs) ∷ ps)
    go true k = (parts b xs, refl)
    go false k = (k.0, ap (on_first x) k.1)

-- there is at most one part more than there are bytes
pub parts_count : (b : ℕ) (xs : List ℕ) → length (parts b xs) ≤ length xs + 1
unfolding parts
parts_count b [] = omega arith
parts_count b (x ∷ xs) = go (eqb x b) (parts b xs) (parts_count b xs)
  where
    go : (t : Bool) (ps : List (List ℕ)) → length ps ≤ length xs + 1 → length (cond t ([] ∷ ps) (on_first x ps)) ≤ suc (length xs) + 1
    go true ps h = omega arith
    go false [] h = omega arith
    go false (p ∷ ps) h = omega arith

-- what follows the first part, as `get` gives it
pub split_rest : (xs part : List ℕ) (r : Option (Bor (List ℕ))) → IsGetRangeResult xs (length part + 1) (length xs) r
    → MatchOption r (length xs ≤ length part) (λ y. (length part < length xs) × (y.now ≡ drop (length part + 1) xs))
split_rest xs part None (inl h, _) = omega arith
split_rest xs part None (inr h, _) = absurd (omega arith)
split_rest xs part (Some y) (h, _) = (omega (arith, h.0), h.2 ∙ take_all (length xs - (length part + 1)) (drop (length part + 1) xs) (simp length-drop (omega arith)))

-- a turn of the iterator: the first part, and what it has left after it
pub parts_turn : (b : ℕ) (rest part : List ℕ) (r : Option (Bor (List ℕ))) → part ≡ until_byte b rest
    → MatchOption r (length rest ≤ length part) (λ y. (length part < length rest) × (y.now ≡ drop (length part + 1) rest))
    → parts b rest ≡ part ∷ parts_left (record { rest = r; stop = b })
parts_turn b rest part None q h = parts_only b rest part q h
parts_turn b rest part (Some y) q h =
    let l : length (until_byte b rest) < length rest = rw (← q) h.0 in
    rw (h.1, q) (parts_more b rest l)
