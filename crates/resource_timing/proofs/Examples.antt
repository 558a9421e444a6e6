-- Worked examples of the definitions of derived times, by computation. Assumes nothing.
use mathlib.Core.Path.{◌≡◌, refl}
use mathlib.Core.List.{[], ◌∷◌}
use Rattle.std.specs.Prelude.{Some, Ok}
use Prim.Native.Nat.{ℕ}
use lib.ListN.{replicate}
use lib.IntN.{pos, negsuc}
use lib.Ieee.{Float, binary64, of_bits, of_int, mul, div, eq}
use Rattle.rounding.specs.Rounding.{half_up, rounded, divided_by}
use Rattle.part_share.specs.Share.{share_of}
use Rattle.resource_timing.specs.declared.ActivityDuration.{ActivityDuration}
use Rattle.resource_timing.specs.declared.ResourceTiming.TheVariants.{Speed, Duration}
use Rattle.resource_timing.specs.declared.Piece.TheVariants.{InPart}
use Rattle.rounding.specs.inner.Limited.{too_large}
use Rattle.resource_timing.specs.Durations.{part_of, piece_duration, piece_fixed, at_speed, timed_duration}
use Rattle.resource_timing.specs.inner.Limits.{within}

abbrev slowest : Float
slowest = of_bits binary64 0x3f50_0000_0000_0000

abbrev fastest : Float
fastest = of_bits binary64 0x4090_0000_0000_0000

abbrev ms : ℕ → ℕ → ℕ → ActivityDuration
ms setup process teardown = record { setup_ms = setup; process_ms = process; teardown_ms = teardown }

-- A: process 5 at speed 2.0 is 3. B: the share of 100, work 1, whole 3 is 33. C: of 5, work 1, whole 2 it is 3.
pub examples :
    (timed_duration (ms 0 5 0) (Speed (of_bits binary64 0x4000_0000_0000_0000) ∷ []) ≡ Some (ms 0 3 0))
    × (share_of 100 1 3 ≡ 33)
    × (share_of 5 1 2 ≡ 3)
unfolding timed_duration at_speed divided_by rounded half_up of_int div mul eq of_bits share_of
examples = (refl, refl, refl)

-- the process 4,000,000,000,000 at 2^-10 passes, and at 2^-20 over two resources it is too large
pub slow :
    (within (timed_duration (ms 0 4000000000000 0) (Speed slowest ∷ [])) ≡ Ok (ms 0 4096000000000000 0))
    × (within (timed_duration (ms 0 4000000000000 0) (Speed slowest ∷ Speed slowest ∷ [])) ≡ too_large)
unfolding within timed_duration at_speed divided_by rounded half_up of_int div mul eq of_bits
slow = (refl, refl)

-- A product that has run down to 0: no quotient, whatever the process. One resource less, and the product is the least float. A product
-- that has run up to infinity: the quotient is 0.
pub run_out :
    (within (timed_duration (ms 0 0 0) (replicate 107 (Speed slowest))) ≡ Ok (ms 0 0 0))
    × (within (timed_duration (ms 0 0 0) (replicate 108 (Speed slowest))) ≡ too_large)
    × (within (timed_duration (ms 0 1 0) (replicate 108 (Speed slowest))) ≡ too_large)
    × (within (timed_duration (ms 1 4000000000000 2) (replicate 103 (Speed fastest))) ≡ Ok (ms 1 0 2))
unfolding within timed_duration at_speed divided_by rounded half_up of_int div mul eq of_bits
run_out = (refl, refl, refl, refl)

-- Each product is rounded before the next speed, so the order shows: process 1 at 0.1, 0.8 and 5.0, in booking order, is 2, as the
-- product is above 0.4; with the last booking first it is 3, as the product is 0.4 itself.
pub order :
    (timed_duration (ms 0 1 0) (Speed (of_bits binary64 0x3fb9_9999_9999_999a) ∷ Speed (of_bits binary64 0x3fe9_9999_9999_999a) ∷ Speed (of_bits binary64 0x4014_0000_0000_0000) ∷ []) ≡ Some (ms 0 2 0))
    × (timed_duration (ms 0 1 0) (Speed (of_bits binary64 0x4014_0000_0000_0000) ∷ Speed (of_bits binary64 0x3fe9_9999_9999_999a) ∷ Speed (of_bits binary64 0x3fb9_9999_9999_999a) ∷ []) ≡ Some (ms 0 3 0))
unfolding timed_duration at_speed divided_by rounded half_up of_int div mul eq of_bits
order = (refl, refl)

-- the largest total, the earliest among equals, whatever the speeds
pub fixed :
    (timed_duration (ms 9 9 9) (Speed slowest ∷ Duration (ms 1 2 3) ∷ Duration (ms 3 2 1) ∷ []) ≡ Some (ms 1 2 3))
    × (timed_duration (ms 9 9 9) (Duration (ms 3 2 1) ∷ Duration (ms 1 2 3) ∷ Speed slowest ∷ []) ≡ Some (ms 3 2 1))
    × (timed_duration (ms 9 9 9) (Duration (ms 3 2 1) ∷ Duration (ms 0 7 0) ∷ []) ≡ Some (ms 0 7 0))
unfolding timed_duration
fixed = (refl, refl, refl)

-- the parts after the first have the overhead; a share of 2^53 or more is refused, be it beyond 2^64
pub parts :
    (piece_duration (InPart (part_of (pos 0) 4 10 5)) (ms 1 10 2) ≡ ms 1 4 2)
    × (piece_duration (InPart (part_of (pos 1) 4 10 5)) (ms 1 10 2) ≡ ms 1 4 7)
    × (piece_duration (InPart (part_of (negsuc 0) 4 10 5)) (ms 1 10 2) ≡ ms 1 4 2)
    × (piece_fixed (InPart (part_of (pos 1) 4 10 5)) (ms 3 20 4) ≡ ms 3 8 9)
    × (within (Some (piece_fixed (InPart (part_of (pos 0) 8192 1 0)) (ms 8191 1099511627775 0))) ≡ Ok (ms 8191 9007199254732800 0))
    × (within (Some (piece_fixed (InPart (part_of (pos 0) 8192 1 0)) (ms 8192 1099511627775 0))) ≡ too_large)
    × (within (Some (piece_fixed (InPart (part_of (pos 0) 4000000000000 1 0)) (ms 0 4000000000000 0))) ≡ too_large)
unfolding within share_of
parts = (refl, refl, refl, refl, refl, refl, refl)
