-- Worked examples of overlaps, by computation. Assumes nothing.
use Rattle.std.proofs.Common.{◌≡◌, pos, refl}
use lib.Ieee.{of_bits, of_int, mul}
use Rattle.loops.specs.Numbers.{minus}
use Rattle.calendar.specs.Clock.{clock}
use Rattle.overlap.specs.Bounds.{overlap_of, earliest_start, earliest_end, ceiling, ceiling_share}

-- start_after 0.5 of 10..15 is 13 (example D); the least share above 0 asks for 1 ms; a span whose end comes first; a lag below 0
pub overlaps :
    (earliest_start clock (overlap_of 0x3fe0_0000_0000_0000 (pos 0)) (pos 10) (pos 15) ≡ pos 13)
    × (earliest_start clock (overlap_of 1 (pos 0)) (pos 10) (pos 11) ≡ pos 11)
    × (earliest_start clock (overlap_of 0 (pos 0)) (pos 10) (pos 4000000000000) ≡ pos 10)
    × (earliest_start clock (overlap_of 0x3fe0_0000_0000_0000 (pos 0)) (pos 15) (pos 10) ≡ pos 13)
    × (earliest_end clock (overlap_of 0 (minus 20)) (pos 15) ≡ minus 5)
unfolding ceiling_share ceiling mul of_bits of_int
overlaps = (refl, refl, refl, refl, refl)
