-- Shares, and their products with a span. Assumes nothing.
use Rattle.std.specs.Prelude.{ℕ, ◌*◌, Bool, true, false, pos, nat_le, Float}
use Rattle.std.specs.Float.{nan, inf, fin, binary64}
use Rattle.std.specs.Float.Ieee.{up, down, of_int, mul}

-- a share is from 0 to 1, with the sign clear
unfoldable pub is_share : Float → Bool
is_share nan = false
is_share (inf s) = false
is_share (fin true m e) = false
is_share (fin false m e) = nat_le (m * up e) (down e)

-- the product of a share and a span that is not negative
abbrev pub product : Float → ℕ → Float
product share span = mul binary64 share (of_int binary64 (pos span))
