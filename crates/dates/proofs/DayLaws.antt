-- Laws of the calendar: the days of years by a formula, of a month by a table. Assumes nothing.
use Prim.Native.Nat.{ℕ, zero, suc, ◌+◌, ◌*◌, ◌-◌, ◌/◌, ◌%◌, ◌≤◌, ◌<◌}
use mathlib.Core.Bool.{Bool, true, false, cond, ◌&&◌, ◌||◌, not, and-eq-true_iff}
use mathlib.Core.List.{List, [], ◌∷◌}
use mathlib.Core.Path.{◌≡◌, refl, sym, ◌∙◌}
use native.Mathlib.Omega.{arith}
use native.Mathlib.Numerals.{add-one}
use lib.Dec.{eqb, leb}
use lib.ListN.{get_or, set, get_or-eq_default}
use borrow.Author.Tests.{eqb-true, eqb-false, leb-true}
use Rattle.loops.specs.Lists.{all_of}
use Rattle.dates.specs.Calendar.{is_leap, year_days, month_days, years_days, months_days}

-- ---- the days of years

-- one year more: each quotient rises where its divisor divides the year
by_4 : (y : ℕ) → (suc y + 3) / 4 ≡ (y + 3) / 4 + cond (eqb (y % 4) 0) 1 0
by_4 y = go (eqb (y % 4) 0) refl
  where
    go : (b : Bool) → eqb (y % 4) 0 ≡ b → (suc y + 3) / 4 ≡ (y + 3) / 4 + cond b 1 0
    go true e = let h = eqb-true (y % 4) 0 e in omega arith
    go false e = let h = eqb-false (y % 4) 0 e in omega arith

by_100 : (y : ℕ) → (suc y + 99) / 100 ≡ (y + 99) / 100 + cond (eqb (y % 100) 0) 1 0
by_100 y = go (eqb (y % 100) 0) refl
  where
    go : (b : Bool) → eqb (y % 100) 0 ≡ b → (suc y + 99) / 100 ≡ (y + 99) / 100 + cond b 1 0
    go true e = let h = eqb-true (y % 100) 0 e in omega arith
    go false e = let h = eqb-false (y % 100) 0 e in omega arith

by_400 : (y : ℕ) → (suc y + 399) / 400 ≡ (y + 399) / 400 + cond (eqb (y % 400) 0) 1 0
by_400 y = go (eqb (y % 400) 0) refl
  where
    go : (b : Bool) → eqb (y % 400) 0 ≡ b → (suc y + 399) / 400 ≡ (y + 399) / 400 + cond b 1 0
    go true e = let h = eqb-true (y % 400) 0 e in omega arith
    go false e = let h = eqb-false (y % 400) 0 e in omega arith

-- a hundredth year is a fourth, and a four-hundredth is a hundredth
hundredth : (y : ℕ) → y % 100 ≡ 0 → y % 4 ≡ 0
hundredth y h = omega arith

four_hundredth : (y : ℕ) → y % 400 ≡ 0 → y % 100 ≡ 0
four_hundredth y h = omega arith

leap_count : (y : ℕ) → year_days y + cond (eqb (y % 100) 0) 1 0 ≡ 365 + cond (eqb (y % 4) 0) 1 0 + cond (eqb (y % 400) 0) 1 0
leap_count y = go (eqb (y % 4) 0) (eqb (y % 100) 0) (eqb (y % 400) 0) refl refl refl
  where
    go : (a b c : Bool) → eqb (y % 4) 0 ≡ a → eqb (y % 100) 0 ≡ b → eqb (y % 400) 0 ≡ c
        → cond (a && (not b || c)) 366 365 + cond b 1 0 ≡ 365 + cond a 1 0 + cond c 1 0
    go true true true p q r = refl
    go true true false p q r = refl
    go true false true p q r = absurd (eqb-false (y % 100) 0 q (four_hundredth y (eqb-true (y % 400) 0 r)))
    go true false false p q r = refl
    go false true c p q r = absurd (eqb-false (y % 4) 0 p (hundredth y (eqb-true (y % 100) 0 q)))
    go false false true p q r = absurd (eqb-false (y % 100) 0 q (four_hundredth y (eqb-true (y % 400) 0 r)))
    go false false false p q r = refl

-- the sums of it, over plain numbers
year_sum : (d n q p r q' p' r' s a b c : ℕ) → d + q ≡ 365 * n + p + r → q' ≡ q + b → p' ≡ p + a → r' ≡ r + c → s + b ≡ 365 + a + c
    → d + s + q' ≡ 365 * suc n + p' + r'
year_sum d n q p r q' p' r' s a b c h i j k l = omega arith

-- the days of the years before y: 365 for each, one for each fourth, none for each hundredth, one for each four-hundredth
years_sum : (y : ℕ) → years_days y + (y + 99) / 100 ≡ 365 * y + (y + 3) / 4 + (y + 399) / 400
unfolding years_days
years_sum zero = refl
years_sum (suc y) = year_sum _ y _ _ _ _ _ _ _ _ _ _ (years_sum y) (by_100 y) (by_4 y) (by_400 y) (leap_count y)

pub years_closed : (y : ℕ) → 365 * y + (y + 3) / 4 + (y + 399) / 400 - (y + 99) / 100 ≡ years_days y
years_closed y = less _ _ _ (years_sum y)
  where
    less : (a b c : ℕ) → a + b ≡ c → c - b ≡ a
    less a b c h = omega arith

-- no month but 1 to 12 has days
abbrev pub common : List ℕ
common = 0 ∷ 31 ∷ 28 ∷ 31 ∷ 30 ∷ 31 ∷ 30 ∷ 31 ∷ 31 ∷ 30 ∷ 31 ∷ 30 ∷ 31 ∷ []

pub no_month : (y m : ℕ) → (0 < m → 12 < m) → 0 ≡ month_days y m
unfolding month_days
no_month y zero h = refl
no_month y (suc m) h = sym (get_or-eq_default (set common 2 (cond (is_leap y) 29 28)) 0 (h (omega arith)))

module _ (y m : ℕ) {b : Bool} (h : m ≡ 2) (e : b ≡ is_leap y) where
  pub leap_february : b ≡ true → 29 ≡ month_days y m
  unfolding month_days
  leap_february t = rw (h, sym e ∙ t)

  pub plain_february : b ≡ false → 28 ≡ month_days y m
  unfolding month_days
  plain_february t = rw (h, sym e ∙ t)

-- no month is longer than 31 days
most : (l : List ℕ) (m : ℕ) → all_of (λ x. leb x 31) l ≡ true → get_or l m 0 ≤ 31
unfolding all_of
most [] m h = omega arith
most (x ∷ l) zero h = leb-true x 31 ((and-eq-true_iff (leb x 31) (all_of (λ x. leb x 31) l)).0 h).0
most (x ∷ l) (suc m) h = most l m ((and-eq-true_iff (leb x 31) (all_of (λ x. leb x 31) l)).0 h).1

pub month_most : (y m : ℕ) → month_days y m ≤ 31
unfolding month_days all_of
month_most y m = go (is_leap y)
  where
    go : (b : Bool) → get_or (0 ∷ 31 ∷ cond b 29 28 ∷ 31 ∷ 30 ∷ 31 ∷ 30 ∷ 31 ∷ 31 ∷ 30 ∷ 31 ∷ 30 ∷ 31 ∷ []) m 0 ≤ 31
    go true = most (set common 2 29) m refl
    go false = most common m refl

-- the days of one month more
pub months_more : (y m days e : ℕ) → days ≡ months_days y m → e ≡ month_days y m → days + e ≡ months_days y (m + 1)
unfolding months_days
months_more y m days e p q = rw (add-one m, p, q)
