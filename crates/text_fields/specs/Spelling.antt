-- How a number is spelled: an optional minus and decimal digits, no leading zero, no -0, above -2^63 and below 2^63. Bytes are given by their
-- numbers: 45 is the minus, 48 to 57 are the digits. Assumes nothing.
use Rattle.std.specs.Prelude.{ℕ, zero, suc, ◌+◌, ◌*◌, ◌-◌, ◌^◌, Bool, cond, ◌&&◌, List, [], ◌∷◌, ltb, leb, eqb, length, ℤ, pos, negsuc, Option, None, Some}
use Rattle.rows.specs.Ranges.{held_none}

abbrev pub is_digit : ℕ → Bool
is_digit x = leb 48 x && leb x 57

-- digits, read on from n, or none where a byte is no digit: each digit is added to ten times what came before it
unfoldable pub digits_from : ℕ → List ℕ → Option ℕ
digits_from n [] = Some n
digits_from n (x ∷ xs) = cond (is_digit x) (digits_from (n * 10 + (x - 48)) xs) None

-- only what is below 2^63
abbrev pub limited : Option ℕ → Option ℕ
limited (Some n) = cond (ltb n (2 ^ 63)) (Some n) None
limited None = None

-- at least one digit, and no zero in front of another
unfoldable pub digits_of : List ℕ → Option ℕ
digits_of [] = None
digits_of (x ∷ xs) = cond (eqb x 48 && ltb 0 (length xs)) None (limited (digits_from 0 (x ∷ xs)))

abbrev pub positive : Option ℕ → Option ℤ
positive (Some n) = Some (pos n)
positive None = None

-- -0 is no number
abbrev pub negative : Option ℕ → Option ℤ
negative (Some zero) = None
negative (Some (suc n)) = Some (negsuc n)
negative None = None

-- a field: the number `held_none` where it is empty, else the number that it spells, if it spells one; no spelling gives -2^63
unfoldable pub number_of : List ℕ → Option ℤ
number_of [] = Some held_none
number_of (x ∷ xs) = cond (eqb x 45) (negative (digits_of xs)) (positive (digits_of (x ∷ xs)))
