-- The room behind a list, as elements are pushed one after the other. Assumes nothing.
use Prim.Native.Nat.{ℕ, ◌+◌}
use mathlib.Core.Path.{◌≡◌, ap, sym, ◌∙◌}
use mathlib.Core.List.{List, [], ◌∷◌, ◌++◌}
use native.Mathlib.Omega.{arith}
use lib.ListN.{length, length-append}
use lib.Seq.{drop-drop}
use Rattle.lent_room.specs.Listed.{Room, past}

module _ {A : Type 0} where
  pub past_past : (m n : ℕ) (r : Room A) → past n (past m r) ≡ past (m + n) r
  unfolding past
  past_past m n r = ap (λ l. record { name = r.name; elements = l }) (drop-drop n m r.elements)

  -- one is pushed of those that are left to push
  pub past_next : {B : Type 0} {x : B} {l l' : List B} (r : Room A) {r' all : Room A} → l ≡ x ∷ l' → r' ≡ past 1 r → past (length l) r ≡ all → past (length l') r' ≡ all
  past_next {l' = l'} r e q h = ap (past (length l')) q ∙ past_past 1 (length l') r ∙ ap (λ n. past n r) (omega (arith, ap length e)) ∙ h

  -- none is left
  pub past_none : {B : Type 0} {l : List B} (r : Room A) {all : Room A} → l ≡ [] → past (length l) r ≡ all → r ≡ all
  unfolding past
  past_none r e h = ap (λ l. past (length l) r) (sym e) ∙ h

  -- none is pushed yet
  pub past_first : {B : Type 0} {l : List B} {r : Room A} (all : Room A) → l ≡ [] → r ≡ all → r ≡ past (length l) all
  unfolding past
  past_first all e q = q ∙ ap (λ l. past (length l) all) (sym e)

  -- one is pushed behind others
  pub past_more : {B : Type 0} (x : B) (l : List B) {l' : List B} {r r' : Room A} (all : Room A) → l' ≡ l ++ x ∷ [] → r' ≡ past 1 r → r ≡ past (length l) all → r' ≡ past (length l') all
  past_more x l all e q h =
      q ∙ ap (past 1) h ∙ past_past (length l) 1 all ∙ ap (λ n. past n all) (omega (arith, ap length e, length-append l (x ∷ [])))
