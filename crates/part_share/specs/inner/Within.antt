-- The share of any times, as the code works it out. Assumes nothing.
use Rattle.std.specs.Prelude.{ℕ, cond, ◌&&◌, leb, Option, None, Some}
use Rattle.part_share.specs.Share.{share_of}

-- the share of times as a sheet has them; of greater ones none is worked out
unfoldable pub share_within : ℕ → ℕ → ℕ → Option ℕ
share_within ms work whole =
    cond (leb ms 4000000000000 && (leb work 4000000000000 && leb whole 4000000000000)) (Some (share_of ms work whole)) None
