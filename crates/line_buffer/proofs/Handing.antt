-- What becomes of lines that are handed over, by how many they are. Assumes nothing.
use Prim.Native.Nat.{ℕ, ◌+◌, ◌*◌, ◌/◌, ◌<◌, ◌≤◌}
use mathlib.Core.Path.{◌≡◌, refl, ap, sym, ◌∙◌}
use mathlib.Core.Bool.{Bool, true, false, cond}
use mathlib.Core.List.{List, ◌++◌}
use native.Mathlib.Omega.{arith}
use native.Mathlib.Nat.{zero-add, mul-le-mul_right, div-mul-le_self}
use lib.ListN.{length, take, drop, length-take}
use lib.Seq.{sets, sets-eq, length-take-le}
use lib.Dec.{ltb}
use lib.IntN.{ℤ}
use borrow.Author.Tests.{lt-ltb, le-ltb, ltb-true, ltb-false}
use Rattle.line_buffer.specs.declared.Handed.{Handed}
use Rattle.line_buffer.specs.declared.Handed.TheVariants.{Over, Full, Longer}
use Rattle.line_buffer.specs.inner.Handing.{handed}

module _ (room held count : ℕ) where
  pub handed_full : room < count → Full ≡ handed room held count
  unfolding handed
  handed_full h = rw (lt-ltb room count h)

  pub handed_longer : count ≤ room → held < count → Longer ≡ handed room held count
  unfolding handed
  handed_longer h k = rw (le-ltb room count h, lt-ltb held count k)

  pub handed_over : count ≤ room → count ≤ held → Over ≡ handed room held count
  unfolding handed
  handed_over h k = rw (le-ltb room count h, le-ltb held count k)

  -- ---- and back, by the two tests
  tests_full : (b c : Bool) → cond b Full (cond c Longer Over) ≡ Full → b ≡ true
  tests_full true c p = refl
  tests_full false true p = cc
  tests_full false false p = cc

  tests_longer : (b c : Bool) → cond b Full (cond c Longer Over) ≡ Longer → b ≡ false
  tests_longer false c p = refl
  tests_longer true c p = cc

  tests_over : (b c : Bool) → cond b Full (cond c Longer Over) ≡ Over → (b ≡ false) × (c ≡ false)
  tests_over false false p = (refl, refl)
  tests_over false true p = (refl, cc)
  tests_over true c p = (cc, cc)

  pub is_full : {r : Handed} → r ≡ handed room held count → r ≡ Full → room < count
  unfolding handed
  is_full e q = ltb-true room count (tests_full (ltb room count) (ltb held count) (sym e ∙ q))

  pub is_longer : {r : Handed} → r ≡ handed room held count → r ≡ Longer → count ≤ room
  unfolding handed
  is_longer e q = ltb-false room count (tests_longer (ltb room count) (ltb held count) (sym e ∙ q))

  pub is_over : {r : Handed} → r ≡ handed room held count → r ≡ Over → (count ≤ room) × (count ≤ held)
  unfolding handed
  is_over e q =
      let t = tests_over (ltb room count) (ltb held count) (sym e ∙ q) in
      (ltb-false room count t.0, ltb-false held count t.1)

  -- lines that are held where they were found are never longer
  pub not_longer : {r : Handed} → count ≤ held → r ≡ handed room held count → r ≡ Longer → ⊥
  unfolding handed
  not_longer h e q = go (ltb room count) (sym (rw (le-ltb held count h) at e) ∙ q)
    where
      go : (b : Bool) → cond b Full Over ≡ Longer → ⊥
      go true p = let z : ◌≡◌ {A = ℕ} 0 1 = cc in omega arith
      go false p = let z : ◌≡◌ {A = ℕ} 0 1 = cc in omega arith

-- ---- the numbers of the lines

-- so many lines stand in so many numbers
pub lines_within : (n l w : ℕ) → n ≤ l / w → n * w ≤ l
lines_within n l w h = omega (arith, mul-le-mul_right w h, div-mul-le_self l w)

-- the first n numbers
pub taken_long : (n : ℕ) (l : List ℤ) → n ≤ length l → n ≡ length (take n l)
taken_long n l h = sym (length-take-le n l h)

pub taken_within : (n : ℕ) (l : List ℤ) (room : ℕ) → n ≤ room → 0 + length (take n l) ≤ room
taken_within n l room h = simp length-take (omega arith)

-- the first n numbers, stored from the front on
pub stored_first : (o found : List ℤ) (n : ℕ) {o' : List ℤ} → n ≤ length found → n ≤ length o → o' ≡ sets o 0 (take n found)
    → o' ≡ take n found ++ drop n o
stored_first o found n h k e =
    let long : length (take n found) ≡ n = length-take-le n found h in
    e ∙ sets-eq (take n found) o 0 (omega arith) ∙ ap (λ m. take n found ++ drop m o) (zero-add _ ∙ long)
