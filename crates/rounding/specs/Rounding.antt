-- Times in whole ms that floats yield, in IEEE 754's binary64. Assumes nothing.
use Rattle.std.specs.Prelude.{ℕ, zero, suc, ◌+◌, ◌*◌, ◌/◌, true, false, pos, Float, Option, None, Some}
use Rattle.std.specs.Float.{nan, inf, fin, binary64}
use Rattle.std.specs.Float.Ieee.{up, down, of_int, div}

-- num / den to the nearest whole number, halves away from zero
unfoldable pub half_up : ℕ → ℕ → ℕ
half_up num den = (2 * num + den) / (2 * den)

-- Rust's `round`, of a float that is a time: `fin s m e` is m * up e / down e, negative where s is true. There is none where the float
-- is not finite, and none below 0; -0.0 is 0.
unfoldable pub rounded : Float → Option ℕ
rounded nan = None
rounded (inf s) = None
rounded (fin false m e) = Some (half_up (m * up e) (down e))
rounded (fin true zero e) = Some 0
rounded (fin true (suc m) e) = None

-- process_ms / product, rounded
unfoldable pub divided_by : ℕ → Float → Option ℕ
divided_by process product = rounded (div binary64 (of_int binary64 (pos process)) product)
