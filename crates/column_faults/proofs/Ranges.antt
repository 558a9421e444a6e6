-- A test of the places below n, by a chain over them. Assumes nothing.
use Rattle.std.proofs.Common.{◌≡◌, ℕ, zero, suc, ◌+◌, Bool, ◌||◌, sym, ◌∙◌, arith}
use Rattle.std.specs.List.{list_any, range_with_len}
use Rattle.std.proofs.Math.Bool.{or-false, or_assoc}
use native.Mathlib.Numerals.{add-one}
use Rattle.loops.specs.Search.{any_below}

from_place : (p : ℕ → Bool) (a n : ℕ) → any_below p (a + n) ≡ (any_below p a || list_any p (range_with_len a n))
unfolding any_below
from_place p a zero = let e : a + 0 ≡ a = omega arith in rw (e, or-false)
from_place p a (suc n) = let e : a + suc n ≡ (a + 1) + n = omega arith in rw e (from_place p (a + 1) n ∙ rw (add-one, or_assoc))

pub any_listed : (p : ℕ → Bool) (n : ℕ) → list_any p (range_with_len 0 n) ≡ any_below p n
unfolding any_below
any_listed p n = let e : 0 + n ≡ n = omega arith in sym (rw e at (from_place p 0 n))
