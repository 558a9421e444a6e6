-- The twelve worked examples of the rules, as one table. Assumes nothing.
use Rattle.std.specs.Prelude.{ℕ, ◌≡◌, true, false, List, [], ◌∷◌, ◌++◌, ℤ, pos, Float}
use Rattle.std.specs.Prelude.{Some}
use Rattle.std.specs.Float.{binary64}
use Rattle.std.specs.Float.Ieee.{of_bits}
use Rattle.rows.specs.Ranges.{held_none}
use Rattle.calendar.specs.declared.WindowKind.TheVariants.{Open, Closure}
use Rattle.calendar.specs.Clock.{clock}
use Rattle.calendar.specs.Calendar.{Window, Calendar, interval_fits}
use Rattle.calendar.specs.WorkEnd.{ends_at, pauses, never, joint_work_end}
use Rattle.rounding.specs.Rounding.{divided_by}
use Rattle.part_share.specs.Share.{share_of}
use Rattle.overlap.specs.Bounds.{overlap_of, earliest_start}
use Rattle.model.specs.Sheet.{sheet}
use Rattle.load.specs.Load.{peak}

-- the bits of 2.0 and of 0.5
abbrev pub speed2 : Float
speed2 = of_bits binary64 0x4000_0000_0000_0000

abbrev pub half : ℕ
half = 0x3fe0_0000_0000_0000

-- a booking of resource 5, as a row
abbrev pub booked : ℕ → ℕ → List ℤ
booked start end =
    pos 23 ∷ pos 1 ∷ pos 1 ∷ pos 5 ∷ pos start ∷ pos end ∷ pos 0 ∷ held_none ∷ held_none ∷ pos 0 ∷ []

-- an open window, a closure
abbrev pub open' : ℕ → ℕ → Window ℤ
open' start end = record { kind = Open; start = pos start; end = pos end }

abbrev pub closure : ℕ → ℕ → Window ℤ
closure start end = record { kind = Closure; start = pos start; end = pos end }

-- a calendar with the closure 5..5, and one with the windows 0..10 and 20..30
abbrev pub closed5 : Calendar ℤ
closed5 = closure 5 5 ∷ []

abbrev pub two_windows : List (Calendar ℤ)
two_windows = (open' 0 10 ∷ open' 20 30 ∷ []) ∷ []

abbrev pub Examples : Type 0
Examples =
    (divided_by 5 speed2 ≡ Some 3)  -- A: process 5 at speed 2.0 is 3
    × (share_of 100 1 3 ≡ 33)  -- B: share of 100, work 1, whole 3 is 33
    × (share_of 5 1 2 ≡ 3)  -- C: share of 5, work 1, whole 2 is 3
    × (earliest_start clock (overlap_of half (pos 0)) (pos 10) (pos 15) ≡ pos 13)  -- D: start_after 0.5 of 10..15 is 13
    × (peak clock (sheet (booked 0 10 ++ booked 10 20)) 5 ≡ 1)  -- E: bookings 0..10 and 10..20 load 1
    × (peak clock (sheet (booked 0 11 ++ booked 10 20)) 5 ≡ 2)  -- F: 0..11 and 10..20 load 2
    × (interval_fits clock closed5 (pos 0) (pos 10) ≡ false)  -- G: closure 5..5 hits 0..10
    × (interval_fits clock closed5 (pos 5) (pos 10) ≡ true)  -- H: it does not hit 5..10
    × (joint_work_end clock two_windows (pos 5) (pos 5) ≡ ends_at (pos 10))  -- I: with windows 0..10 and 20..30, 5 from 5 is 10
    × (joint_work_end clock two_windows (pos 5) (pos 15) ≡ ends_at (pos 30))  -- J: 15 from 5 is 30
    × (joint_work_end clock two_windows (pos 5) (pos 16) ≡ never)  -- K: 16 from 5 is never
    × (joint_work_end clock two_windows (pos 10) (pos 0) ≡ pauses)  -- L: 0 from 10 is pause
