-- Laws of letters in either case. Assumes nothing.
use Prim.Native.Nat.{ℕ, zero, suc, ◌-◌, ◌≤◌, ◌<◌}
use mathlib.Core.Bool.{Bool, true, false, ◌&&◌, and-false}
use mathlib.Core.List.{List, [], ◌∷◌}
use mathlib.Core.Path.{◌≡◌, refl, ap, ap₂}
use native.Mathlib.Omega.{arith}
use lib.Dec.{eqb, leb}
use lib.ListN.{take, drop}
use borrow.Author.Tests.{lt-leb, le-leb, ne_eqb, leb-true, leb-false}
use Rattle.loops.specs.Lists.{all_of}
use Rattle.loops.proofs.BoolLaws.{and_left, and_right}
use Rattle.text_fields.specs.Spelling.{is_digit}
use Rattle.letters.specs.Letters.{capital, capitals}

-- ---- what a capital is

pub capital_low : (x : ℕ) → x < 97 → capital x ≡ x
unfolding capital
capital_low x h = rw (lt-leb 97 x)

pub capital_high : (x : ℕ) → 122 < x → capital x ≡ x
unfolding capital
capital_high x h = rw (lt-leb x 122, and-false (leb 97 x))

pub capital_small : (x : ℕ) → 97 ≤ x → x ≤ 122 → capital x ≡ x - 32
unfolding capital
capital_small x h k = rw (le-leb 97 x, le-leb x 122)

-- either it is as it was, or it was a small letter
data Cased (x : ℕ) : Type 0 where
  kept : capital x ≡ x → Cased x
  raised : 97 ≤ x → x ≤ 122 → capital x ≡ x - 32 → Cased x

cased : (x : ℕ) → Cased x
cased x = go (leb 97 x) (leb x 122) refl refl
  where
    go : (a b : Bool) → leb 97 x ≡ a → leb x 122 ≡ b → Cased x
    go false b p q = kept (capital_low x (leb-false 97 x p))
    go true false p q = kept (capital_high x (leb-false x 122 q))
    go true true p q = raised (leb-true 97 x p) (leb-true x 122 q) (capital_small x (leb-true 97 x p) (leb-true x 122 q))

-- a test that passes no letter in one case alone does not see the case
pub unseen : {B : Type 0} (f : ℕ → B) → ((x : ℕ) → 97 ≤ x → x ≤ 122 → f (x - 32) ≡ f x) → (x : ℕ) → f (capital x) ≡ f x
unseen f h x = go (cased x)
  where
    go : Cased x → f (capital x) ≡ f x
    go (kept e) = ap f e
    go (raised l m e) = rw e (h x l m)

-- a capital is its own
pub capital_twice : (x : ℕ) → capital (capital x) ≡ capital x
capital_twice x = unseen capital (λ y l m. rw (capital_low (y - 32) (omega arith), capital_small y l m)) x

-- bytes below the letters
pub byte_unseen : (b : ℕ) → b < 65 → (x : ℕ) → eqb (capital x) b ≡ eqb x b
byte_unseen b h x = unseen (λ y. eqb y b) (λ y l m. rw (ne_eqb (y - 32) b (λ e. omega arith), ne_eqb y b (λ e. omega arith))) x

pub digit_unseen : (x : ℕ) → is_digit (capital x) ≡ is_digit x
digit_unseen x = unseen is_digit (λ y l m. rw (lt-leb (y - 32) 57 (omega arith), lt-leb y 57 (omega arith), and-false (leb 48 (y - 32)), and-false (leb 48 y))) x

-- digits have no case
pub digit_kept : (x : ℕ) → is_digit x ≡ true → capital x ≡ x
digit_kept x h = let k = leb-true x 57 (and_right (leb 48 x) (leb x 57) h) in capital_low x (omega arith)

pub digits_kept : (s : List ℕ) → all_of is_digit s ≡ true → capitals s ≡ s
unfolding all_of
digits_kept [] h = refl
digits_kept (x ∷ s) h =
    let e = digit_kept x (and_left (is_digit x) (all_of is_digit s) h) in
    let f = digits_kept s (and_right (is_digit x) (all_of is_digit s) h) in rw (e, f)

pub digits_unseen : (s : List ℕ) → all_of is_digit (capitals s) ≡ all_of is_digit s
unfolding all_of
digits_unseen [] = refl
digits_unseen (x ∷ s) = ap₂ ◌&&◌ (digit_unseen x) (digits_unseen s)

-- ---- parts of capitals

pub capitals_take : (n : ℕ) (s : List ℕ) → take n (capitals s) ≡ capitals (take n s)
capitals_take zero s = refl
capitals_take (suc n) [] = refl
capitals_take (suc n) (x ∷ s) = ap (λ (l : List ℕ). capital x ∷ l) (capitals_take n s)

pub capitals_drop : (n : ℕ) (s : List ℕ) → drop n (capitals s) ≡ capitals (drop n s)
capitals_drop zero s = refl
capitals_drop (suc n) [] = refl
capitals_drop (suc n) (x ∷ s) = capitals_drop n s
