-- How long what is printed can be: with 2,000 findings lent, a buffer of 168,030 bytes holds it all. Assumes nothing.
use Prim.Native.Nat.{ℕ, zero, suc, ◌+◌, ◌*◌, ◌/◌, ◌^◌, ◌≤◌, ◌<◌}
use mathlib.Core.List.{List}
use native.Mathlib.Omega.{arith}
use native.Mathlib.Decide.{dec_lt}
use lib.ListN.{length, get_or, take, drop, length-append, length-take, get_or-eq_default}
use lib.Seq.{get_or-take, get_or-drop}
use lib.IntN.{ℤ, pos, negsuc, nat_abs}
use Rattle.loops.specs.Range.{collect}
use Rattle.printing.specs.Decimal.{decimal, spelling}
use Rattle.printing.specs.NumberLines.{field, number_line, line_at, number_lines}
use Rattle.printing.specs.Printed.{printed_refused, printed_accepted}
use Rattle.printing.proofs.DecimalLaws.{decimal_last, decimal_more, tens}

decimal_length : (k n : ℕ) → n < tens (suc k) → length (decimal n) ≤ suc k
decimal_length zero n h = rw (decimal_last n (omega arith)) (omega arith)
decimal_length (suc k) n h = go (dec_lt n 10) (decimal_length k (n / 10))
  where
    go : Dec (n < 10) → (n / 10 < tens (suc k) → length (decimal (n / 10)) ≤ suc k) → length (decimal n) ≤ suc (suc k)
    go (yes l) r = rw (decimal_last n l) (omega arith)
    go (no l) r = rw (decimal_more n (omega arith)) (simp length-append (omega (arith, r (omega arith))))

-- a number of 64 bits
wide_length : (n : ℕ) → n < 2 ^ 64 → length (decimal n) ≤ 20
wide_length n h = decimal_length 19 n (omega arith)

spelling_length : (z : ℤ) → nat_abs z ≤ 2 ^ 63 → length (spelling z) ≤ 20
unfolding spelling
spelling_length (pos n) h = omega (arith, decimal_length 18 n (omega arith))
spelling_length (negsuc n) h = omega (arith, decimal_length 18 (suc n) (omega arith))

-- numbers of 64 bits
abbrev pub Small : List ℤ → Type 0
Small l = (i : ℕ) → nat_abs (get_or l i (pos 0)) ≤ 2 ^ 63

pub small_take : (w : ℕ) (l : List ℤ) → Small l → Small (take w l)
small_take w l s i = go (dec_lt i w)
  where
    go : Dec (i < w) → nat_abs (get_or (take w l) i (pos 0)) ≤ 2 ^ 63
    go (yes h) = rw (get_or-take w l i (pos 0) h) (s i)
    go (no h) = rw (get_or-eq_default (take w l) (pos 0) {n = i} (omega (arith, length-take w l))) (omega arith)

pub small_drop : (m : ℕ) (l : List ℤ) → Small l → Small (drop m l)
small_drop m l s i = rw (get_or-drop m l i (pos 0)) (s (m + i))

field_length : (line : List ℤ) (c : ℕ) → Small line → length (field line c) ≤ 21
unfolding field
field_length line c s = simp length-append (omega (arith, spelling_length (get_or line c (pos 0)) (s c)))

fields_length : (line : List ℤ) (n : ℕ) → Small line → length (collect (field line) n) ≤ 21 * n
unfolding collect
fields_length line zero s = omega arith
fields_length line (suc n) s = simp length-append (omega (arith, fields_length line n s, field_length line n s))

pub line_length : (line : List ℤ) → Small line → length (number_line line) ≤ 21 * length line
unfolding number_line
line_length line s = fields_length line (length line) s

four_length : (found : List ℤ) (k : ℕ) → Small found → length (number_line (line_at 4 found k)) ≤ 84
unfolding line_at
four_length found k s =
    omega (arith, line_length (take 4 (drop (k * 4) found)) (small_take 4 (drop (k * 4) found) (small_drop (k * 4) found s)), length-take 4 (drop (k * 4) found))

lines_length : (found : List ℤ) (n : ℕ) → Small found → length (number_lines 4 found n) ≤ 84 * n
unfolding number_lines collect
lines_length found zero s = omega arith
lines_length found (suc n) s = simp length-append (omega (arith, lines_length found n s, four_length found n s))

pub accepted_fits : (found : List ℤ) → Small found → (n : ℕ) → n ≤ 2000 → length (printed_accepted n found) ≤ 168030
unfolding printed_accepted
accepted_fits found s n h = simp length-append (omega (arith, wide_length n (omega arith), lines_length found n s))

pub refused_fits : (number place : ℕ) → number < 2 ^ 64 → place < 2 ^ 64 → length (printed_refused number place) ≤ 50
unfolding printed_refused
refused_fits number place h l = simp length-append (omega (arith, wide_length number h, wide_length place l))
