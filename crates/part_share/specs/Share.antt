-- A part's share of a fixed time. Assumes nothing.
use Rattle.std.specs.Prelude.{ℕ, ◌+◌, ◌*◌, ◌/◌, cond, eqb}

-- `share` of `Activity::part`: ms * work / whole, rounded to the nearest ms
unfoldable pub share_of : ℕ → ℕ → ℕ → ℕ
share_of ms work whole = cond (eqb whole 0) ms ((2 * ms * work + whole) / (2 * whole))
