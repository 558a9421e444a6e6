-- A number as the bytes of its decimal spelling: 45 is the minus, 48 to 57 are the digits. Assumes nothing.
use Rattle.std.specs.Prelude.{ℕ, zero, suc, ◌+◌, ◌/◌, ◌%◌, cond, List, [], ◌∷◌, ◌++◌, ltb, ℤ, pos, negsuc}

-- the digits before the last, where there are any, and the last; of at most k digits
unfoldable pub decimal_in : ℕ → ℕ → List ℕ
decimal_in zero n = []
decimal_in (suc k) n = cond (ltb n 10) [] (decimal_in k (n / 10)) ++ (48 + n % 10) ∷ []

-- n has fewer than n + 2 digits
unfoldable pub decimal : ℕ → List ℕ
decimal n = decimal_in (suc n) n

unfoldable pub spelling : ℤ → List ℕ
spelling (pos n) = decimal n
spelling (negsuc n) = 45 ∷ decimal (suc n)
