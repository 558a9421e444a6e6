-- Laws of decimal spellings. Assumes nothing.
use Prim.Native.Nat.{ℕ, zero, suc, ◌+◌, ◌*◌, ◌/◌, ◌%◌, ◌≤◌, ◌<◌}
use mathlib.Core.Bool.{Bool, true, false, cond}
use mathlib.Core.List.{List, [], ◌∷◌, ◌++◌}
use mathlib.Core.Path.{◌≡◌, refl, ap, ◌∙◌}
use native.Mathlib.Omega.{arith}
use native.Mathlib.Decide.{dec_lt}
use lib.Dec.{ltb}
use borrow.Author.Tests.{lt-ltb, le-ltb, ltb-false}
use Rattle.printing.specs.Decimal.{decimal_in, decimal}

-- more room for digits than they take makes no difference
enough : (k m n : ℕ) → n < k → n < m → decimal_in k n ≡ decimal_in m n
unfolding decimal_in
enough zero m n h l = absurd (omega arith)
enough (suc k) zero n h l = absurd (omega arith)
enough (suc k) (suc m) n h l = go (ltb n 10) refl (enough k m (n / 10))
  where
    go : (t : Bool) → ltb n 10 ≡ t → (n / 10 < k → n / 10 < m → decimal_in k (n / 10) ≡ decimal_in m (n / 10))
        → cond t [] (decimal_in k (n / 10)) ++ (48 + n % 10) ∷ [] ≡ cond t [] (decimal_in m (n / 10)) ++ (48 + n % 10) ∷ []
    go true e r = refl
    go false e r = let b = ltb-false n 10 e in ap (λ (ds : List ℕ). ds ++ (48 + n % 10) ∷ []) (r (omega arith) (omega arith))

pub decimal_last : (n : ℕ) → n < 10 → decimal n ≡ (48 + n) ∷ []
unfolding decimal decimal_in
decimal_last n h = let e : n % 10 ≡ n = omega arith in rw (lt-ltb n 10 h, e)

one_more_lem : (k n : ℕ) → 10 ≤ n → decimal_in (suc k) n ≡ decimal_in k (n / 10) ++ (48 + n % 10) ∷ []
unfolding decimal_in
one_more_lem k n h = rw (le-ltb n 10 h)

pub decimal_more : (n : ℕ) → 10 ≤ n → decimal n ≡ decimal (n / 10) ++ (48 + n % 10) ∷ []
unfolding decimal
decimal_more n h = one_more_lem n n h ∙ ap (λ (ds : List ℕ). ds ++ (48 + n % 10) ∷ []) (enough n (suc (n / 10)) (n / 10) (omega arith) (omega arith))

-- 10 to the k
abbrev pub tens : ℕ → ℕ
tens zero = 1
tens (suc k) = 10 * tens k

-- room for as many digits as a number has is enough
pub decimal_in_lem : (k n : ℕ) → n < tens (suc k) → decimal n ≡ decimal_in (suc k) n
unfolding decimal_in
decimal_in_lem zero n h =
    let e : n % 10 ≡ n = omega arith in
    decimal_last n (omega arith) ∙ rw (lt-ltb n 10 (omega arith), e)
decimal_in_lem (suc k) n h = go (dec_lt n 10) (decimal_in_lem k (n / 10))
  where
    go : Dec (n < 10) → (n / 10 < tens (suc k) → decimal (n / 10) ≡ decimal_in (suc k) (n / 10)) → decimal n ≡ decimal_in (suc (suc k)) n
    go (yes l) r = let e : n % 10 ≡ n = omega arith in decimal_last n l ∙ rw (lt-ltb n 10 l, e)
    go (no l) r = decimal_more n (omega arith) ∙ rw (le-ltb n 10 (omega arith), r (omega arith))
