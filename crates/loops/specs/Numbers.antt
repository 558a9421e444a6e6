-- Numbers. Assumes nothing.
use Rattle.std.specs.Prelude.{ℕ, zero, suc, cond, ℤ, pos, negsuc}
use Rattle.std.specs.Int.Signed.{lt_z}

-- a number that is not negative as a natural number; 0 for a negative one
abbrev pub to_nat : ℤ → ℕ
to_nat (pos n) = n
to_nat (negsuc n) = 0

-- -n
abbrev pub minus : ℕ → ℤ
minus zero = pos 0
minus (suc n) = negsuc n

-- `a.max(b)`, `a.min(b)`
abbrev pub max_z : ℤ → ℤ → ℤ
max_z a b = cond (lt_z a b) b a

abbrev pub min_z : ℤ → ℤ → ℤ
min_z a b = cond (lt_z b a) b a
