-- Searches over the places 0, 1, .. (n - 1). Assumes nothing.
use Rattle.std.specs.Prelude.{ℕ, zero, suc, ◌+◌, Bool, true, false, cond, ◌||◌}
use Rattle.std.specs.Prelude.{Option, None, Some}

module _ {A : Type 0} where
  -- the first, or where it has none the second
  abbrev pub or_else : Option A → Option A → Option A
  or_else None y = y
  or_else (Some x) y = Some x

  -- x where the test holds
  abbrev pub some_if : Bool → A → Option A
  some_if true x = Some x
  some_if false x = None

  -- what the first place below n gives that gives anything
  unfoldable pub first : (ℕ → Option A) → ℕ → Option A
  first f zero = None
  first f (suc n) = or_else (first f n) (f n)

-- the first place below n that passes the test
unfoldable pub first_place : (ℕ → Bool) → ℕ → Option ℕ
first_place p zero = None
first_place p (suc n) = or_else (first_place p n) (some_if (p n) n)

-- some place below n passes the test
unfoldable pub any_below : (ℕ → Bool) → ℕ → Bool
any_below p zero = false
any_below p (suc n) = any_below p n || p n

-- how many places below n pass the test
unfoldable pub count_below : (ℕ → Bool) → ℕ → ℕ
count_below p zero = 0
count_below p (suc n) = count_below p n + cond (p n) 1 0
