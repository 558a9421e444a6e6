-- From when on a step may start and end that overlaps the one before it, in whole ms and IEEE 754's binary64. Assumes nothing.
use Rattle.std.specs.Prelude.{ℕ, ◌+◌, ◌-◌, ◌*◌, ◌/◌, true, false, ℤ, pos, neg_ℤ, from_bits, Float}
use Rattle.std.specs.Float.{nan, inf, fin, binary64}
use Rattle.std.specs.Float.Ieee.{up, down, of_int, mul}
use Rattle.calendar.specs.Clock.{Clock}
use Rattle.overlap.specs.declared.Overlap.{Overlap}

-- num / den to the next whole number
abbrev pub ceil_div : ℕ → ℕ → ℕ
ceil_div num den = (num + (den - 1)) / den

-- Rust's `ceil`: the least whole number that is no less than the float; `fin s m e` is m * up e / down e, negative where s is true.
-- A NaN and an infinity have 0; no product of a share and a span is one.
unfoldable pub ceiling : Float → ℤ
ceiling nan = pos 0
ceiling (inf s) = pos 0
ceiling (fin false m e) = pos (ceil_div (m * up e) (down e))
ceiling (fin true m e) = neg_ℤ (pos (m * up e / down e))

-- the ceiling of share * span, the product rounded once: how much of the span must have passed
unfoldable pub ceiling_share : Float → ℤ → ℤ
ceiling_share share span = ceiling (mul binary64 share (of_int binary64 span))

-- an overlap by the bits of its share
abbrev pub overlap_of : ℕ → ℤ → Overlap
overlap_of bits lag = record { start_after = from_bits binary64 bits; finish_after_ms = lag }

module _ {T : Type 0} (K : Clock T) where
  -- `Overlap::earliest_start`: of the step before, its start and its end
  abbrev pub earliest_start : Overlap → T → T → T
  earliest_start o start end = K.plus start (ceiling_share o.start_after (K.minus end start))

  -- `Overlap::earliest_end`: of the step before, its end
  abbrev pub earliest_end : Overlap → T → T
  earliest_end o end = K.plus end o.finish_after_ms
